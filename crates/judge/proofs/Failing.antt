-- The first element of a list that fails, and that none does.
use Rattle.std.proofs.Common.{◌≡◌, ℕ, ◌<◌, Bool, false, not, List, [], ◌∷◌, map, length, get_or, take, is_some, Some, None, Decides, Option, sym, subst, not-suc-le-zero, arith, length-take, get_or-take, MatchOption}
use Rattle.std.specs.List.{HoldsAt, AllByRecursion}
use Rattle.std.proofs.lemmas.List.Elements.{at_read}
use Rattle.std.proofs.ByRecursion.{All-get_or}
use Rattle.std.proofs.lemmas.List.{length-map, get_or-map}
use Rattle.std.proofs.lemmas.Bool.{both_ways}
use Rattle.std.proofs.lemmas.Bool.Decides.{not_from_Decides}
use Rattle.answer_sets.proofs.Each.{all_of_map}

-- where the element at place i fails and those before it passed
pub first_failing : {X : Type 0} (P : X → Type 0) (xs : List X) (i : ℕ) (x : X) (r : Bool) → i < length xs → x ≡ get_or xs i x → Decides r (P x) → r ≡ false → AllByRecursion P (take i xs)
    → HoldsAt (λ y. P y → ⊥) xs i × ((j : ℕ) → j < i → HoldsAt P xs j)
first_failing P xs i x r h e d n a = (
  at_read xs (λ y. P y → ⊥) i x h e (not_from_Decides r d n),
  (λ j l z. subst P (get_or-take i xs j z l) (All-get_or P (take i xs) j z (omega (arith, length-take i xs)) a)),
)

-- the same, said of what the list stands for
pub first_failing_mapped : {X Y : Type 0} (f : X → Y) (P : Y → Type 0) (xs : List X) (i : ℕ) (x : X) (r : Bool) → i < length xs → x ≡ get_or xs i x → Decides r (P (f x)) → r ≡ false
    → AllByRecursion (λ y. P (f y)) (take i xs) → (i < length (map f xs)) × HoldsAt (λ y. P y → ⊥) (map f xs) i × ((j : ℕ) → j < i → HoldsAt P (map f xs) j)
first_failing_mapped {X} f P xs i x r h e d n a =
    let k = first_failing (λ (y : X). P (f y)) xs i x r h e d n a in (
      omega (arith, length-map xs f),
      (λ z. subst (λ y. P y → ⊥) (sym (get_or-map f xs i x z h)) (k.0 x)),
      (λ j l z. subst P (sym (get_or-map f xs j x z (omega arith))) (k.1 j l x)),
    )

-- no place fails exactly where all pass
pub none_failing : {X Y : Type 0} (f : X → Y) (P : Y → Type 0) (xs : List X) (o : Option ℕ) (Q : ℕ → Type 0) (r : Bool)
    → MatchOption o (AllByRecursion P (map f xs)) (λ i. (i < length xs) × HoldsAt (λ x. P (f x) → ⊥) xs i × Q i) → r ≡ not (is_some o) → Decides r (AllByRecursion P (map f xs))
none_failing f P xs None Q r c e = ((λ _. c), (λ _. e))
none_failing {X} f P xs (Some i) Q r c e =
    ((λ y. absurd (both_ways r e y)), (λ a. absurd (c.1 (first xs i c.0) (All-get_or (λ (x : X). P (f x)) xs i (first xs i c.0) c.0 (all_of_map f P xs a)))))
  where
    first : (ys : List X) (k : ℕ) → k < length ys → X
    first [] k h = absurd (not-suc-le-zero h)
    first (y ∷ ys) k h = y
