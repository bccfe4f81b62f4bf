-- Ascending lists of numbers, and what stands in them. Two of them with the same numbers are the same list.
use Rattle.std.proofs.Common.{◌≡◌, ℕ, zero, suc, ◌+◌, ◌<◌, Bool, true, false, cond, eqb, ◌⊎◌, List, [], ◌∷◌, ◌++◌, map, length, get_or, filter, sym, refl, ap, ◌∙◌, subst, ap₂, inl, inr, ⊎_elim, suc-le-suc, le_of_suc-le-suc, not-suc-le-zero, zero-lt-suc, add-one, arith}
use Rattle.std.specs.List.{AllByRecursion}
use Rattle.std.proofs.lemmas.Bool.{both_ways, eqb-true, eq-eqb, or_cases, or_left, or_right, cases_order}
use Rattle.std.proofs.ByRecursion.{All-weaker, All-append, All-map}
use Rattle.sets.specs.Lists.{member, Ascends}

-- ---- what stands in a list

pub member_head : (x : ℕ) (xs : List ℕ) → member x (x ∷ xs) ≡ true
member_head x xs = or_left (eqb x x) (member x xs) (eq-eqb x x refl)

pub member_tail : (x y : ℕ) (xs : List ℕ) → member x xs ≡ true → member x (y ∷ xs) ≡ true
member_tail x y xs h = or_right (eqb y x) (member x xs) h

pub member_cases : (x y : ℕ) (xs : List ℕ) → member x (y ∷ xs) ≡ true → (y ≡ x) ⊎ (member x xs ≡ true)
member_cases x y xs h = ⊎_elim (λ e. inl (eqb-true y x e)) (λ m. inr m) (or_cases (eqb y x) (member x xs) h)

pub member-none {ℓ} : {A : Type ℓ} (x : ℕ) → member x [] ≡ true → A
member-none x h = absurd (both_ways false refl h)

pub member_place : (x : ℕ) (xs : List ℕ) → member x xs ≡ true → (i : ℕ) × (i < length xs) × (get_or xs i 0 ≡ x)
member_place x [] h = member-none x h
member_place x (y ∷ xs) h =
    ⊎_elim (λ e. (0, zero-lt-suc (length xs), e))
    (λ m. let p = member_place x xs m in (suc p.0, suc-le-suc p.1, p.2))
    (member_cases x y xs h)

pub member_at : (xs : List ℕ) (i : ℕ) → i < length xs → member (get_or xs i 0) xs ≡ true
member_at [] i h = absurd (not-suc-le-zero h)
member_at (x ∷ xs) zero h = member_head x xs
member_at (x ∷ xs) (suc i) h = member_tail (get_or xs i 0) x xs (member_at xs i (le_of_suc-le-suc h))

pub member_append_left : (x : ℕ) (xs ys : List ℕ) → member x xs ≡ true → member x (xs ++ ys) ≡ true
member_append_left x [] ys h = member-none x h
member_append_left x (y ∷ xs) ys h =
    ⊎_elim (λ e. or_left (eqb y x) (member x (xs ++ ys)) (eq-eqb y x e))
    (λ m. member_tail x y (xs ++ ys) (member_append_left x xs ys m)) (member_cases x y xs h)

pub member_append_right : (x : ℕ) (xs ys : List ℕ) → member x ys ≡ true → member x (xs ++ ys) ≡ true
member_append_right x [] ys h = h
member_append_right x (y ∷ xs) ys h = member_tail x y (xs ++ ys) (member_append_right x xs ys h)

pub member_append : (x : ℕ) (xs ys : List ℕ) → member x (xs ++ ys) ≡ true → (member x xs ≡ true) ⊎ (member x ys ≡ true)
member_append x [] ys h = inr h
member_append x (y ∷ xs) ys h =
    ⊎_elim (λ e. inl (or_left (eqb y x) (member x xs) (eq-eqb y x e)))
    (λ m. ⊎_elim (λ a. inl (member_tail x y xs a)) (λ b. inr b) (member_append x xs ys m))
    (member_cases x y (xs ++ ys) h)

pub member_map : (f : ℕ → ℕ) (x : ℕ) (xs : List ℕ) → member x xs ≡ true → member (f x) (map f xs) ≡ true
member_map f x [] h = member-none x h
member_map f x (y ∷ xs) h =
    ⊎_elim (λ e. or_left (eqb (f y) (f x)) (member (f x) (map f xs)) (eq-eqb (f y) (f x) (ap f e)))
    (λ m. member_tail (f x) (f y) (map f xs) (member_map f x xs m)) (member_cases x y xs h)

pub member_of_map : (f : ℕ → ℕ) (z : ℕ) (xs : List ℕ) → member z (map f xs) ≡ true → (x : ℕ) × (member x xs ≡ true) × (f x ≡ z)
member_of_map f z [] h = member-none z h
member_of_map f z (y ∷ xs) h =
    ⊎_elim (λ e. (y, member_head y xs, e))
    (λ m. let p = member_of_map f z xs m in (p.0, member_tail p.0 y xs p.1, p.2))
    (member_cases z (f y) (map f xs) h)

pick_member : (b : Bool) (x y : ℕ) (ks : List ℕ) → ((b ≡ true) × (y ≡ x)) ⊎ (member x ks ≡ true) → member x (cond b (y ∷ ks) ks) ≡ true
pick_member true x y ks c = ⊎_elim (λ q. or_left (eqb y x) (member x ks) (eq-eqb y x q.1)) (λ m. member_tail x y ks m) c
pick_member false x y ks c = ⊎_elim (λ q. absurd (both_ways false refl q.0)) (λ m. m) c

of_pick : (b : Bool) (x y : ℕ) (ks : List ℕ) → member x (cond b (y ∷ ks) ks) ≡ true → ((b ≡ true) × (y ≡ x)) ⊎ (member x ks ≡ true)
of_pick true x y ks h = ⊎_elim (λ e. inl (refl, e)) (λ m. inr m) (member_cases x y ks h)
of_pick false x y ks h = inr h

pub member_kept : (p : ℕ → Bool) (x : ℕ) (xs : List ℕ) → member x xs ≡ true → p x ≡ true → member x (filter p xs) ≡ true
member_kept p x [] h t = member-none x h
member_kept p x (y ∷ xs) h t =
    pick_member (p y) x y (filter p xs)
    (⊎_elim (λ e. inl (ap p e ∙ t, e)) (λ m. inr (member_kept p x xs m t)) (member_cases x y xs h))

pub member_of_kept : (p : ℕ → Bool) (x : ℕ) (xs : List ℕ) → member x (filter p xs) ≡ true → (member x xs ≡ true) × (p x ≡ true)
member_of_kept p x [] h = member-none x h
member_of_kept p x (y ∷ xs) h =
    ⊎_elim (λ q. (or_left (eqb y x) (member x xs) (eq-eqb y x q.1), ap p (sym q.1) ∙ q.0))
    (λ m. let q = member_of_kept p x xs m in (member_tail x y xs q.0, q.1))
    (of_pick (p y) x y (filter p xs) h)

pub all_member : (P : ℕ → Type 0) (xs : List ℕ) → AllByRecursion P xs → (x : ℕ) → member x xs ≡ true → P x
all_member P [] a x h = member-none x h
all_member P (y ∷ xs) a x h = ⊎_elim (λ e. subst P e a.0) (λ m. all_member P xs a.1 x m) (member_cases x y xs h)

pub all_of_members : (P : ℕ → Type 0) (xs : List ℕ) → ((x : ℕ) → member x xs ≡ true → P x) → AllByRecursion P xs
all_of_members P [] h = tt
all_of_members P (y ∷ xs) h = (h y (member_head y xs), all_of_members P xs (λ x m. h x (member_tail x y xs m)))

-- ---- each number is below all that follow

abbrev pub Sorted : List ℕ → Type 0
Sorted [] = Unit {0}
Sorted (x ∷ xs) = AllByRecursion (λ y. x < y) xs × Sorted xs

ascends_tail : (x : ℕ) (xs : List ℕ) → Ascends (x ∷ xs) → Ascends xs
ascends_tail x xs h i l =
    subst (λ (n : ℕ). get_or xs i 0 < get_or (x ∷ xs) n 0) (add-one (i + 1))
    (subst (λ (n : ℕ). get_or (x ∷ xs) n 0 < get_or (x ∷ xs) (i + 1 + 1) 0) (add-one i) (h (i + 1) (omega arith)))

pub sorted_of : (xs : List ℕ) → Ascends xs → Sorted xs
sorted_of [] h = tt
sorted_of (x ∷ []) h = (tt, tt)
sorted_of (x ∷ y ∷ xs) h =
    let s : Sorted (y ∷ xs) = sorted_of (y ∷ xs) (ascends_tail x (y ∷ xs) h) in
    let l : x < y = h 0 (omega arith) in
    ((l, All-weaker (λ z. y < z) (λ z. x < z) (λ z k. omega arith) xs s.0), s)

pub ascends_of : (xs : List ℕ) → Sorted xs → Ascends xs
ascends_of [] s i l = absurd (not-suc-le-zero l)
ascends_of (x ∷ []) s i l = absurd (omega arith)
ascends_of (x ∷ y ∷ xs) s zero l = s.0.0
ascends_of (x ∷ y ∷ xs) s (suc i) l =
    subst (λ (n : ℕ). get_or (y ∷ xs) i 0 < get_or (x ∷ y ∷ xs) n 0) (sym (add-one (suc i)))
    (subst (λ (n : ℕ). get_or (y ∷ xs) i 0 < get_or (y ∷ xs) n 0) (add-one i) (ascends_of (y ∷ xs) s.1 i (omega arith)))

pub sorted_append : (xs ys : List ℕ) → Sorted xs → Sorted ys → ((x y : ℕ) → member x xs ≡ true → member y ys ≡ true → x < y) → Sorted (xs ++ ys)
sorted_append [] ys s t h = t
sorted_append (x ∷ xs) ys s t h = (
  All-append (λ y. x < y) xs ys s.0 (all_of_members (λ y. x < y) ys (λ y m. h x y (member_head x xs) m)),
  sorted_append xs ys s.1 t (λ a b m n. h a b (member_tail a x xs m) n),
)

pub sorted_map : (f : ℕ → ℕ) (xs : List ℕ) → ((x y : ℕ) → x < y → f x < f y) → Sorted xs → Sorted (map f xs)
sorted_map f [] h s = tt
sorted_map f (x ∷ xs) h s =
    (All-map (λ y. f x < y) f xs (All-weaker (λ y. x < y) (λ y. f x < f y) (λ y l. h x y l) xs s.0), sorted_map f xs h s.1)

sorted_pick : (b : Bool) (x : ℕ) (ks : List ℕ) → AllByRecursion (λ y. x < y) ks → Sorted ks → Sorted (cond b (x ∷ ks) ks)
sorted_pick true x ks a s = (a, s)
sorted_pick false x ks a s = s

pub sorted_kept : (p : ℕ → Bool) (xs : List ℕ) → Sorted xs → Sorted (filter p xs)
sorted_kept p [] s = tt
sorted_kept p (x ∷ xs) s =
    sorted_pick (p x) x (filter p xs)
    (all_of_members (λ y. x < y) (filter p xs) (λ y m. all_member (λ z. x < z) xs s.0 y (member_of_kept p y xs m).0))
    (sorted_kept p xs s.1)

-- ---- the same numbers make the same list

pub sorted_ext : (xs ys : List ℕ) → Sorted xs → Sorted ys
    → ((z : ℕ) → member z xs ≡ true → member z ys ≡ true) → ((z : ℕ) → member z ys ≡ true → member z xs ≡ true) → xs ≡ ys
sorted_ext [] [] s t f g = refl
sorted_ext [] (y ∷ ys) s t f g = member-none y (g y (member_head y ys))
sorted_ext (x ∷ xs) [] s t f g = member-none x (f x (member_head x xs))
sorted_ext (x ∷ xs) (y ∷ ys) s t f g =
    let same : x ≡ y = heads (cases_order x y) in
    ap₂ (λ (h : ℕ) (r : List ℕ). h ∷ r) same (sorted_ext xs ys s.1 t.1
    (λ z m. ⊎_elim (λ e. let l = all_member (λ w. x < w) xs s.0 z m in absurd (omega arith)) (λ n. n) (member_cases z y ys (f z (member_tail z x xs m))))
    (λ z m. ⊎_elim (λ e. let l = all_member (λ w. y < w) ys t.0 z m in absurd (omega arith)) (λ n. n) (member_cases z x xs (g z (member_tail z y ys m)))))
  where
    heads : (x ≡ y) ⊎ ((x < y) ⊎ (y < x)) → x ≡ y
    heads c = ⊎_elim (λ e. e)
        (λ d. ⊎_elim
        (λ (l : x < y). ⊎_elim (λ e. sym e) (λ m. let k = all_member (λ w. y < w) ys t.0 x m in absurd (omega arith)) (member_cases x y ys (f x (member_head x xs))))
        (λ (l : y < x). ⊎_elim (λ e. e) (λ m. let k = all_member (λ w. x < w) xs s.0 y m in absurd (omega arith)) (member_cases y x xs (g y (member_head y ys)))) d) c

-- ---- numbers at two places

pub ascends_apart : (xs : List ℕ) → Ascends xs → (i j : ℕ) → i < j → j < length xs → get_or xs i 0 < get_or xs j 0
ascends_apart xs h i zero l k = absurd (not-suc-le-zero l)
ascends_apart xs h i (suc j) l k =
    let step : get_or xs j 0 < get_or xs (suc j) 0 = subst (λ (n : ℕ). get_or xs j 0 < get_or xs n 0) (add-one j) (h j (omega arith)) in
    ⊎_elim
    (λ (e : i ≡ j). subst (λ (n : ℕ). get_or xs n 0 < get_or xs (suc j) 0) (sym e) step)
    (λ d. ⊎_elim (λ (q : i < j). let r = ascends_apart xs h i j q (omega arith) in omega arith) (λ q. absurd (omega arith)) d)
    (cases_order i j)
