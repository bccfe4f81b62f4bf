-- What `all`, `any` and `position` answer of a list that stands for another one, and the highest of a list.
use Rattle.std.proofs.Common.{◌≡◌, ℕ, ◌<◌, max, Bool, true, false, List, [], ◌∷◌, map, length, get_or, Some, None, Decides, Option, sym, refl, subst, not-suc-le-zero, arith, MatchOption}
use Rattle.std.specs.Bool.{MatchBool}
use Rattle.std.specs.List.{HoldsAt, All, AllByRecursion, AllWithin, fold}
use Rattle.std.proofs.lemmas.List.Elements.{recursion_from_All, All-from_recursion, All-from_all_within}
use Rattle.std.proofs.lemmas.List.{length-map, get_or-map}
use Rattle.std.proofs.lemmas.Bool.{both_ways}
use Rattle.answer_sets.specs.Rules.{Any}
use Rattle.answer_sets.specs.Rounds.{depth}
use Rattle.answer_sets.proofs.Each.{all_of_map, all_to_map, any_to_map, any_of_map, no_any, any_at}

-- ---- what `all` and `any` answer

module _ {X Y : Type 0} (f : X → Y) (P : Y → Type 0) where
  -- where the element at a place fails, not all pass
  not_all : (xs : List X) (k : ℕ) → k < length xs → HoldsAt (λ x. P (f x) → ⊥) xs k → AllByRecursion P (map f xs) → ⊥
  not_all [] k l h a = not-suc-le-zero l
  not_all (x ∷ xs) k l h a = h x (All-from_recursion (λ y. P (f y)) (x ∷ xs) (all_of_map f P (x ∷ xs) a) k x l)

  some_one : (xs : List X) (k : ℕ) → k < length xs → HoldsAt (λ x. P (f x)) xs k → Any P (map f xs)
  some_one [] k l h = absurd (not-suc-le-zero l)
  some_one (x ∷ xs) k l h = any_to_map f P (x ∷ xs) (any_at (λ y. P (f y)) (x ∷ xs) k x (get_or (x ∷ xs) k x) l refl (h x))

  pub all_mapped : (xs : List X) {ys : List X} → ys ≡ xs → All (λ x. P (f x)) ys → AllByRecursion P (map f xs)
  all_mapped xs e h = all_to_map f P xs (recursion_from_All (λ x. P (f x)) xs (subst (All (λ x. P (f x))) e h))

  all_within : (xs : List X) → AllWithin (λ x. P (f x)) xs 0 (length xs) → AllByRecursion P (map f xs)
  all_within xs h = all_mapped xs refl (All-from_all_within (λ x. P (f x)) xs h)

  -- where one fails, not all pass
  pub fails : (xs : List X) (i : ℕ) (d x : X) → i < length xs → x ≡ get_or xs i d → (P (f x) → ⊥) → AllByRecursion P (map f xs) → ⊥
  fails xs i d x l e n a = n (subst (λ (y : X). P (f y)) (sym e) (All-from_recursion (λ y. P (f y)) xs (all_of_map f P xs a) i d l))

  pub decides_all : (xs : List X) (r : Bool)
      → MatchBool r (AllWithin (λ x. P (f x)) xs 0 (length xs)) ((k : ℕ) × (k < length xs) × HoldsAt (λ x. P (f x) → ⊥) xs k) → Decides r (AllByRecursion P (map f xs))
  decides_all xs true h = ((λ _. all_within xs h), (λ _. refl))
  decides_all xs false (k, l, h) = ((λ y. absurd (both_ways false refl y)), (λ a. absurd (not_all xs k l h a)))

  pub decides_any : (xs : List X) (r : Bool)
      → MatchBool r ((k : ℕ) × (k < length xs) × HoldsAt (λ x. P (f x)) xs k) (AllWithin (λ x. P (f x) → ⊥) xs 0 (length xs)) → Decides r (Any P (map f xs))
  decides_any xs true (k, l, h) = ((λ _. some_one xs k l h), (λ _. refl))
  decides_any xs false h = (
    (λ y. absurd (both_ways false refl y)),
    (λ a. no_any (λ (x : X). P (f x)) (λ (x : X). P (f x) → ⊥) (λ x p q. q p) xs (any_of_map f P xs a)
        (recursion_from_All (λ x. P (f x) → ⊥) xs (All-from_all_within (λ x. P (f x) → ⊥) xs h))),
  )

  -- ---- what `position` answers, where it looks for what fails

  -- the first place that fails, or all pass
  abbrev pub FirstFailing : List X → Option ℕ → Type 0
  FirstFailing xs o =
      MatchOption o (AllWithin (λ x. P (f x)) xs 0 (length xs)) (λ i. (i < length xs) × HoldsAt (λ x. P (f x) → ⊥) xs i × AllWithin (λ x. P (f x)) xs 0 i)

  pub first_broken : (xs : List X) (o : Option ℕ) → FirstFailing xs o
      → MatchOption o (AllByRecursion P (map f xs)) (λ i. (i < length xs) × HoldsAt (λ x. P (f x) → ⊥) xs i × ((j : ℕ) → j < i → HoldsAt (λ x. P (f x)) xs j))
  first_broken xs None h = all_within xs h
  first_broken xs (Some i) (l, h, before) = (l, h, λ j k z. before j z (omega arith) k)

  pub first_broken_mapped : (xs : List X) (o : Option ℕ) → FirstFailing xs o
      → MatchOption o (AllByRecursion P (map f xs)) (λ i. (i < length (map f xs)) × HoldsAt (λ y. P y → ⊥) (map f xs) i × ((j : ℕ) → j < i → HoldsAt P (map f xs) j))
  first_broken_mapped xs None h = all_within xs h
  first_broken_mapped [] (Some i) (l, h, before) = absurd (not-suc-le-zero l)
  first_broken_mapped (x ∷ xs) (Some i) (l, h, before) = (
    omega (arith, length-map (x ∷ xs) f),
    (λ z. subst (λ y. P y → ⊥) (sym (get_or-map f (x ∷ xs) i x z l)) (h x)),
    (λ j k z. subst P (sym (get_or-map f (x ∷ xs) j x z (omega arith))) (before j x (omega arith) k)),
  )

-- ---- the highest

folded : (a : ℕ) (xs : List ℕ) → fold max a xs ≡ max a (depth xs)
folded a [] = omega arith
folded a (x ∷ xs) = omega (arith, folded (max a x) xs)

pub depth_is : (xs : List ℕ) → fold max 0 xs ≡ depth xs
depth_is xs = omega (arith, folded 0 xs)
