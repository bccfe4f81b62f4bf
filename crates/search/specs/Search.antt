-- Going up through the sets drawn from the heads of rules, for the first that some ranks bear.
use Rattle.std.specs.Prelude.{◌≡◌, ℕ, ◌+◌, ◌^◌, ◌<◌, ◌≤◌, ◌⊎◌, ◌↔◌, List, [], ◌∷◌, ◌++◌, length}
use Rattle.std.specs.List.{AllByRecursion}
use Rattle.sets.specs.Sets.{◌∈◌, size}
use Rattle.sets.specs.Walks.{sets_from}
use Rattle.refusals.specs.Numbers.{Says}
use Rattle.refusals.specs.declared.refusal.Refusal.{Refusal}
use Rattle.banks.specs.Meaning.{Meaning}
use Rattle.answer_sets.specs.Rules.{Any, Way, decision, Rule, Borne}
use Rattle.answer_sets.specs.Published.{AnswerSetBy, program}

-- H has just the decisions that are the head of some rule
abbrev pub Heads : List Rule → ℕ → Type 0
Heads rules H = (d : ℕ) → (d ∈ H) ↔ Any (λ r. r.head ≡ decision d) rules

-- the sets drawn from the heads H that are not below start, lowest first
abbrev pub candidates : ℕ → ℕ → List ℕ
candidates start H = sets_from start 0 H

-- s is the first candidate that some ranks bear, and `tried` counts the candidates up to it
pub record Found (m : Meaning) (w : Way) (rules : List Rule) (start s tried : ℕ) : Type 0 where
  pub heads : ℕ
  pub drawn : Heads rules heads
  pub few : size heads ≤ 16
  pub before : List ℕ
  pub after : List ℕ
  pub split : candidates start heads ≡ before ++ s ∷ after
  pub count : tried ≡ length before + 1
  pub borne : Borne m w rules s
  pub none_before : AllByRecursion (λ n. Borne m w rules n → ⊥) before

-- no ranks bear a candidate, and `tried` counts them all
pub record NoneFound (m : Meaning) (w : Way) (rules : List Rule) (start tried : ℕ) : Type 0 where
  pub heads : ℕ
  pub drawn : Heads rules heads
  pub few : size heads ≤ 16
  pub count : tried ≡ length (candidates start heads)
  pub none : AllByRecursion (λ n. Borne m w rules n → ⊥) (candidates start heads)

-- there are more than sixteen different heads
abbrev pub HasManyHeads : List Rule → Type 0
HasManyHeads rules = (H : ℕ) × Heads rules H × (16 < size H)

-- the refusal is 27 for too many heads, or 28 where no candidate is borne, and tells how many there were
abbrev pub Refused : Meaning → Way → List Rule → ℕ → Refusal → Type 0
Refused m w rules start e =
    (Says e 27 [] × HasManyHeads rules) ⊎ ((tried : ℕ) × Says e 28 (tried ∷ []) × NoneFound m w rules start tried)

-- s is the lowest answer set that is not below start, of all sets, drawn from the heads or not
pub record LowestAnswer (m : Meaning) (w : Way) (rules : List Rule) (start s : ℕ) : Type 0 where
  pub fits : s < 2 ^ 64
  pub not_below : start ≤ s
  pub answer : AnswerSetBy w (program m rules) s
  pub lowest : (n : ℕ) → n < 2 ^ 64 → start ≤ n → AnswerSetBy w (program m rules) n → s ≤ n

-- no set that is not below start is an answer set
abbrev pub NoAnswer : Meaning → Way → List Rule → ℕ → Type 0
NoAnswer m w rules start = (n : ℕ) → n < 2 ^ 64 → start ≤ n → AnswerSetBy w (program m rules) n → ⊥
