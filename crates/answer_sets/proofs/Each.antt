-- All and Any over a list, by tests, by maps and by filters.
use Rattle.std.proofs.Common.{◌≡◌, ℕ, zero, suc, ◌<◌, Bool, true, false, cond, ◌⊎◌, List, [], ◌∷◌, ◌++◌, map, length, get_or, filter, refl, subst, inl, inr, ⊎_elim, le_of_suc-le-suc, not-suc-le-zero, arith}
use Rattle.std.specs.Bool.{MatchBool}
use Rattle.std.specs.List.{AllByRecursion, AllWithin, HoldsAt}
use Rattle.std.proofs.lemmas.Bool.{both_ways, and_parts, and_from, or_cases, or_left, or_right}
use Rattle.answer_sets.specs.Rules.{Any}
use Rattle.answer_sets.specs.Tests.{allb, anyb}

pub allb_all : {X : Type 0} (p : X → Bool) (P : X → Type 0) → ((x : X) → p x ≡ true → P x) → (xs : List X) → allb p xs ≡ true → AllByRecursion P xs
allb_all p P f [] h = tt
allb_all p P f (x ∷ xs) h = let k = and_parts (p x) (allb p xs) h in (f x k.0, allb_all p P f xs k.1)

pub all_allb : {X : Type 0} (p : X → Bool) (P : X → Type 0) → ((x : X) → P x → p x ≡ true) → (xs : List X) → AllByRecursion P xs → allb p xs ≡ true
all_allb p P f [] h = refl
all_allb p P f (x ∷ xs) h = and_from (p x) (allb p xs) (f x h.0) (all_allb p P f xs h.1)

pub anyb_any : {X : Type 0} (p : X → Bool) (P : X → Type 0) → ((x : X) → p x ≡ true → P x) → (xs : List X) → anyb p xs ≡ true → Any P xs
anyb_any p P f [] h = absurd (both_ways false refl h)
anyb_any p P f (x ∷ xs) h = ⊎_elim (λ e. inl (f x e)) (λ e. inr (anyb_any p P f xs e)) (or_cases (p x) (anyb p xs) h)

pub any_anyb : {X : Type 0} (p : X → Bool) (P : X → Type 0) → ((x : X) → P x → p x ≡ true) → (xs : List X) → Any P xs → anyb p xs ≡ true
any_anyb p P f [] h = absurd h
any_anyb p P f (x ∷ xs) (inl h) = or_left (p x) (anyb p xs) (f x h)
any_anyb p P f (x ∷ xs) (inr h) = or_right (p x) (anyb p xs) (any_anyb p P f xs h)

pub all_to : {X : Type 0} (P Q : X → Type 0) → ((x : X) → P x → Q x) → (xs : List X) → AllByRecursion P xs → AllByRecursion Q xs
all_to P Q f [] h = tt
all_to P Q f (x ∷ xs) h = (f x h.0, all_to P Q f xs h.1)

pub any_to : {X : Type 0} (P Q : X → Type 0) → ((x : X) → P x → Q x) → (xs : List X) → Any P xs → Any Q xs
any_to P Q f [] h = h
any_to P Q f (x ∷ xs) (inl h) = inl (f x h)
any_to P Q f (x ∷ xs) (inr h) = inr (any_to P Q f xs h)

pub all_zip : {X : Type 0} (P Q R : X → Type 0) → ((x : X) → P x → Q x → R x) → (xs : List X) → AllByRecursion P xs → AllByRecursion Q xs → AllByRecursion R xs
all_zip P Q R f [] h k = tt
all_zip P Q R f (x ∷ xs) h k = (f x h.0 k.0, all_zip P Q R f xs h.1 k.1)

-- an element that is so, under what holds of all
pub any_all : {X : Type 0} (P Q R : X → Type 0) → ((x : X) → P x → Q x → R x) → (xs : List X) → Any P xs → AllByRecursion Q xs → Any R xs
any_all P Q R f [] h k = h
any_all P Q R f (x ∷ xs) (inl h) k = inl (f x h k.0)
any_all P Q R f (x ∷ xs) (inr h) k = inr (any_all P Q R f xs h k.1)

pub no_any : {X : Type 0} {A : Type 0} (P Q : X → Type 0) → ((x : X) → P x → Q x → ⊥) → (xs : List X) → Any P xs → AllByRecursion Q xs → A
no_any P Q f [] h k = absurd h
no_any P Q f (x ∷ xs) (inl h) k = absurd (f x h k.0)
no_any P Q f (x ∷ xs) (inr h) k = no_any P Q f xs h k.1

pub any_out : {X : Type 0} {A : Type 0} (P : X → Type 0) → ((x : X) → P x → A) → (xs : List X) → Any P xs → A
any_out P f [] h = absurd h
any_out P f (x ∷ xs) (inl h) = f x h
any_out P f (x ∷ xs) (inr h) = any_out P f xs h

-- ---- joins
pub all_join : {X : Type 0} (P : X → Type 0) (xs ys : List X) → AllByRecursion P xs → AllByRecursion P ys → AllByRecursion P (xs ++ ys)
all_join P [] ys h k = k
all_join P (x ∷ xs) ys h k = (h.0, all_join P xs ys h.1 k)

pub all_left : {X : Type 0} (P : X → Type 0) (xs ys : List X) → AllByRecursion P (xs ++ ys) → AllByRecursion P xs
all_left P [] ys h = tt
all_left P (x ∷ xs) ys h = (h.0, all_left P xs ys h.1)

pub all_right : {X : Type 0} (P : X → Type 0) (xs ys : List X) → AllByRecursion P (xs ++ ys) → AllByRecursion P ys
all_right P [] ys h = h
all_right P (x ∷ xs) ys h = all_right P xs ys h.1

pub any_split : {X : Type 0} (P : X → Type 0) (xs ys : List X) → Any P (xs ++ ys) → Any P xs ⊎ Any P ys
any_split P [] ys h = inr h
any_split P (x ∷ xs) ys (inl h) = inl (inl h)
any_split P (x ∷ xs) ys (inr h) = ⊎_elim (λ k. inl (inr k)) (λ k. inr k) (any_split P xs ys h)

pub any_left : {X : Type 0} (P : X → Type 0) (xs ys : List X) → Any P xs → Any P (xs ++ ys)
any_left P [] ys h = absurd h
any_left P (x ∷ xs) ys (inl h) = inl h
any_left P (x ∷ xs) ys (inr h) = inr (any_left P xs ys h)

pub any_right : {X : Type 0} (P : X → Type 0) (xs ys : List X) → Any P ys → Any P (xs ++ ys)
any_right P [] ys h = h
any_right P (x ∷ xs) ys h = inr (any_right P xs ys h)

-- ---- maps
pub all_of_map : {X Y : Type 0} (f : X → Y) (P : Y → Type 0) (xs : List X) → AllByRecursion P (map f xs) → AllByRecursion (λ x. P (f x)) xs
all_of_map f P [] h = tt
all_of_map f P (x ∷ xs) h = (h.0, all_of_map f P xs h.1)

pub all_to_map : {X Y : Type 0} (f : X → Y) (P : Y → Type 0) (xs : List X) → AllByRecursion (λ x. P (f x)) xs → AllByRecursion P (map f xs)
all_to_map f P [] h = tt
all_to_map f P (x ∷ xs) h = (h.0, all_to_map f P xs h.1)

pub any_of_map : {X Y : Type 0} (f : X → Y) (P : Y → Type 0) (xs : List X) → Any P (map f xs) → Any (λ x. P (f x)) xs
any_of_map f P [] h = h
any_of_map f P (x ∷ xs) (inl h) = inl h
any_of_map f P (x ∷ xs) (inr h) = inr (any_of_map f P xs h)

pub any_to_map : {X Y : Type 0} (f : X → Y) (P : Y → Type 0) (xs : List X) → Any (λ x. P (f x)) xs → Any P (map f xs)
any_to_map f P [] h = h
any_to_map f P (x ∷ xs) (inl h) = inl h
any_to_map f P (x ∷ xs) (inr h) = inr (any_to_map f P xs h)

-- ---- filters
module _ {X : Type 0} (p : X → Bool) (P : X → Type 0) where
  all_pick : (b : Bool) (x : X) (ys : List X) → AllByRecursion P (cond b (x ∷ ys) ys) → (b ≡ true → P x) × AllByRecursion P ys
  all_pick true x ys h = (λ _. h.0, h.1)
  all_pick false x ys h = (λ e. absurd (both_ways false refl e), h)

  all_put : (b : Bool) (x : X) (ys : List X) → (b ≡ true → P x) → AllByRecursion P ys → AllByRecursion P (cond b (x ∷ ys) ys)
  all_put true x ys h k = (h refl, k)
  all_put false x ys h k = k

  any_pick : (b : Bool) (x : X) (ys : List X) → Any P (cond b (x ∷ ys) ys) → ((b ≡ true) × P x) ⊎ Any P ys
  any_pick true x ys (inl h) = inl (refl, h)
  any_pick true x ys (inr h) = inr h
  any_pick false x ys h = inr h

  any_put : (b : Bool) (x : X) (ys : List X) → ((b ≡ true) × P x) ⊎ Any P ys → Any P (cond b (x ∷ ys) ys)
  any_put true x ys (inl h) = inl h.1
  any_put true x ys (inr h) = inr h
  any_put false x ys (inl h) = absurd (both_ways false refl h.0)
  any_put false x ys (inr h) = h

  pub all_of_kept : (xs : List X) → AllByRecursion P (filter p xs) → AllByRecursion (λ x. p x ≡ true → P x) xs
  all_of_kept [] h = tt
  all_of_kept (x ∷ xs) h = let k = all_pick (p x) x (filter p xs) h in (k.0, all_of_kept xs k.1)

  pub all_to_kept : (xs : List X) → AllByRecursion (λ x. p x ≡ true → P x) xs → AllByRecursion P (filter p xs)
  all_to_kept [] h = tt
  all_to_kept (x ∷ xs) h = all_put (p x) x (filter p xs) h.0 (all_to_kept xs h.1)

  pub any_of_kept : (xs : List X) → Any P (filter p xs) → Any (λ x. (p x ≡ true) × P x) xs
  any_of_kept [] h = h
  any_of_kept (x ∷ xs) h = ⊎_elim (λ k. inl k) (λ k. inr (any_of_kept xs k)) (any_pick (p x) x (filter p xs) h)

  pub any_to_kept : (xs : List X) → Any (λ x. (p x ≡ true) × P x) xs → Any P (filter p xs)
  any_to_kept [] h = h
  any_to_kept (x ∷ xs) (inl h) = any_put (p x) x (filter p xs) (inl h)
  any_to_kept (x ∷ xs) (inr h) = any_put (p x) x (filter p xs) (inr (any_to_kept xs h))

-- some element of a list is so where the one at a place is
pub any_at : {X : Type 0} (P : X → Type 0) (xs : List X) (i : ℕ) (d x : X) → i < length xs → x ≡ get_or xs i d → P x → Any P xs
any_at P [] i d x l e h = absurd (not-suc-le-zero l)
any_at P (y ∷ ys) zero d x l e h = inl (subst P e h)
any_at P (y ∷ ys) (suc i) d x l e h = inr (any_at P ys i d x (le_of_suc-le-suc l) e h)

-- and all are where each one at a place is
pub all_from_within : {X : Type 0} (P : X → Type 0) (xs : List X) → AllWithin P xs 0 (length xs) → AllByRecursion P xs
all_from_within P [] h = tt
all_from_within P (x ∷ xs) h = (h 0 x (omega arith) (omega arith), all_from_within P xs (λ k d _ l. h (suc k) d (omega arith) (omega arith)))

pub any_from_at : {X : Type 0} (P : X → Type 0) (xs : List X) → (k : ℕ) × (k < length xs) × HoldsAt P xs k → Any P xs
any_from_at P [] h = absurd (not-suc-le-zero h.1)
any_from_at P (x ∷ xs) h = any_at P (x ∷ xs) h.0 x (get_or (x ∷ xs) h.0 x) h.1 refl (h.2 x)

-- what an iterator's `all` and `any` answer, of the whole list
pub each_from_all : {X : Type 0} (Yes No : X → Type 0) (xs : List X) (r : Bool) →
    MatchBool r (AllWithin Yes xs 0 (length xs)) ((k : ℕ) × (k < length xs) × HoldsAt No xs k) → MatchBool r (AllByRecursion Yes xs) (Any No xs)
each_from_all Yes No xs true h = all_from_within Yes xs h
each_from_all Yes No xs false h = any_from_at No xs h

pub each_from_any : {X : Type 0} (Yes No : X → Type 0) (xs : List X) (r : Bool) →
    MatchBool r ((k : ℕ) × (k < length xs) × HoldsAt Yes xs k) (AllWithin No xs 0 (length xs)) → MatchBool r (Any Yes xs) (AllByRecursion No xs)
each_from_any Yes No xs true h = any_from_at Yes xs h
each_from_any Yes No xs false h = all_from_within No xs h
