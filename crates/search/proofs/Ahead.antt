-- Going through what a walk has ahead, set by set.
use Rattle.std.proofs.Common.{◌≡◌, ℕ, ◌+◌, List, [], ◌∷◌, ◌++◌, length, Some, None, Option, sym, ap, ◌∙◌, arith, MatchOption}
use Rattle.std.specs.List.{AllByRecursion}
use Rattle.std.proofs.lemmas.List.{append_assoc, length_push}
use Rattle.answer_sets.proofs.Each.{all_join}
use Rattle.sets.specs.Walks.{sets_from}
use Rattle.sets.specs.declared.span.Span.{Span}
use Rattle.sets.specs.declared.walk.Walk.{Walk}
use Rattle.sets.specs.Coming.{to_come}

-- the set at which a walk stands comes first, and then what its next step has to come
pub to_come_step : {o : Option Walk} {w : Walk} (next : Option Walk) → o ≡ Some w
    → MatchOption next (to_come (Some w) ≡ w.at ∷ []) (λ v. (v.span ≡ w.span) × (to_come (Some w) ≡ w.at ∷ sets_from v.at w.span.lower w.span.upper))
    → to_come o ≡ w.at ∷ to_come next
to_come_step None is c = ap to_come is ∙ c
to_come_step {w = w} (Some v) is c = ap to_come is ∙ c.1 ∙ ap (λ (s : Span). w.at ∷ sets_from v.at s.lower s.upper) (sym c.0)

-- of `all`, the first n are left behind, each so, and the rest is to come
abbrev pub Passed : (ℕ → Type 0) → List ℕ → List ℕ → ℕ → Type 0
Passed P all rest n = (before : List ℕ) × (all ≡ before ++ rest) × (n ≡ length before) × AllByRecursion P before

pub passed_more : (P : ℕ → Type 0) {all rest rest' : List ℕ} {s n m : ℕ} → rest ≡ s ∷ rest' → m ≡ n + 1 → P s → Passed P all rest n → Passed P all rest' m
passed_more P {all} {rest} {rest'} {s} e k h (before, split, count, each) = (
  before ++ (s ∷ []),
  split ∙ ap (λ (l : List ℕ). before ++ l) e ∙ sym (append_assoc before (s ∷ []) rest'),
  omega (arith, length_push before s),
  all_join P before (s ∷ []) each (h, tt),
)
