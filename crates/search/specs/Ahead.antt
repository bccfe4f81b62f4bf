-- What a walk has ahead of it, and where a search in it stops.
use Rattle.std.specs.Prelude.{◌≡◌, ℕ, ◌+◌, ◌^◌, ◌<◌, ◌≤◌, List, ◌∷◌, ◌++◌, length, Option, MatchOption}
use Rattle.std.specs.List.{AllByRecursion}
use Rattle.sets.specs.Sets.{size}
use Rattle.sets.specs.Coming.{to_come}
use Rattle.sets.specs.declared.walk.Walk.{Walk}
use Rattle.banks.specs.Meaning.{Meaning}
use Rattle.answer_sets.specs.Rules.{Way, Rule, Borne}
use Rattle.search.specs.declared.first.Stop.{Stop}
use Rattle.search.specs.Search.{Heads, candidates}

-- the walk has the candidates to come, drawn from at most sixteen heads
pub record Drawn (rules : List Rule) (start : ℕ) (walk : Option Walk) : Type 0 where
  pub heads : ℕ
  pub fits : heads < 2 ^ 64
  pub drawn : Heads rules heads
  pub few : size heads ≤ 16
  pub coming : to_come walk ≡ candidates start heads

-- of the sets to come, s is the first that some ranks bear, `rest` comes after it, and `tried` counts those up to it
pub record FirstBorne (m : Meaning) (w : Way) (rules : List Rule) (coming rest : List ℕ) (tried s : ℕ) : Type 0 where
  pub before : List ℕ
  pub split : coming ≡ before ++ s ∷ rest
  pub count : tried ≡ length before + 1
  pub borne : Borne m w rules s
  pub none_before : AllByRecursion (λ n. Borne m w rules n → ⊥) before

-- no ranks bear one of the sets to come, and `tried` counts them all
pub record NoneBorne (m : Meaning) (w : Way) (rules : List Rule) (coming : List ℕ) (tried : ℕ) : Type 0 where
  pub count : tried ≡ length coming
  pub none : AllByRecursion (λ n. Borne m w rules n → ⊥) coming

-- the search stopped at the first set to come that some ranks bear, or went through them all
abbrev pub Stops : Meaning → Way → List Rule → List ℕ → Stop → Type 0
Stops m w rules coming stop =
    MatchOption stop.found (NoneBorne m w rules coming stop.tried) (λ s. FirstBorne m w rules coming (to_come stop.ahead) stop.tried s)
