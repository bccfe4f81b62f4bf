-- A row of sets: its part near a span, and which sets of the span stand in it.
use Rattle.std.proofs.Common.{◌≡◌, ℕ, ◌+◌, ◌-◌, ◌^◌, ◌<◌, ◌≤◌, ◌⊎◌, Bool, true, false, not, ◌&&◌, eqb, List, [], ◌∷◌, length, get_or, take, drop, filter, cond, leb, Decides, Some, None, Option, MatchOption, sym, refl, ap, ◌∙◌, subst, ap₂, ⊎_elim, zero-le, arith}
use Rattle.std.proofs.lemmas.Bool.{both_ways, cases_Bool, cases_lt, cases_order, and_parts, and_from, eq-eqb, eqb-true, leb-false, le-leb, lt-leb}
use Rattle.std.proofs.lemmas.List.Sorted.{IsNonDecreasingBy-from_default}
use Rattle.std.proofs.lemmas.List.Sums.{take_while-cons}
use Rattle.std.proofs.lemmas.List.{get_or-drop, get_or-take, length-drop, length-take-le}
use Rattle.std.specs.List.Sorted.{IsNonDecreasingBy}
use Rattle.std.specs.Bool.{MatchBool}
use Rattle.std.specs.Iterator.{AlwaysYields, YieldsThen, ComparesItemsByEq}
use Rattle.std.specs.List.{AllWithin, HoldsAt, AllZip, prefix_len}
use Rattle.std.specs.Option.{IfSome}
use Rattle.std.proofs.lemmas.Iterator.{YieldsList}
use Rattle.sets.specs.Lists.{member, Ascends}
use Rattle.sets.specs.Sets.{◌⊆◌, Between, inside}
use Rattle.sets.specs.Walks.{sets_between}
use Rattle.sets.proofs.Ascending.{Sorted, member_head, member_tail, member_cases, member-none, all_member, member_place, member_at, member_kept, member_of_kept, ascends_apart, sorted_of, ascends_of, sorted_kept, sorted_ext}
use Rattle.sets.proofs.Listing.{between_listed}
use Rattle.sets.proofs.Members.{same_test, decides_sub, sub_le}
use Rattle.listed.specs.Tables.{AllIn, NoneIn}

-- ---- the part near a span

-- what a binary search asks of a row
pub rises : (row : List ℕ) → Ascends row → IsNonDecreasingBy (λ x. x) row
rises row asc = IsNonDecreasingBy-from_default (λ x. x) row 0 (λ i j l k.
    ⊎_elim (λ (e : i ≡ j). let q = ap (λ (n : ℕ). get_or row n 0) e in omega arith)
    (λ d. ⊎_elim (λ (m : i < j). let q = ascends_apart row asc i j m k in omega arith) (λ m. absurd (omega arith)) d)
    (cases_order i j))

-- what stands at a place is a member
member_is : (f : ℕ) (row : List ℕ) (i : ℕ) → i < length row → get_or row i 0 ≡ f → member f row ≡ true
member_is f row i l e = subst (λ (x : ℕ). member x row ≡ true) e (member_at row i l)

-- a set above all that stands before place i is not lost with it
pub member_drop : (row : List ℕ) (i f : ℕ) → ((j : ℕ) → j < i → get_or row j 0 < f) → member f (drop i row) ≡ member f row
member_drop row i f below = same_test (member f (drop i row)) (member f row)
    (λ m. let p = member_place f (drop i row) m in
    member_is f row (i + p.0) (omega (arith, p.1, length-drop i row)) (sym (get_or-drop i row p.0 0) ∙ p.2))
    (λ m. let p = member_place f row m in ⊎_elim
    (λ (l : p.0 < i). let b = below p.0 l in let e = p.2 in absurd (omega arith))
    (λ l. member_is f (drop i row) (p.0 - i) (omega (arith, p.1, length-drop i row))
    (get_or-drop i row (p.0 - i) 0 ∙ ap (λ (n : ℕ). get_or row n 0) (omega arith) ∙ p.2))
    (cases_lt p.0 i))

pub ascends_take : (n : ℕ) (row : List ℕ) → n ≤ length row → Ascends row → Ascends (take n row)
ascends_take n row h asc i l =
    let k : i + 1 < n = omega (arith, l, length-take-le n row h) in
    let a = get_or-take n row i 0 (omega arith) in
    let b = get_or-take n row (i + 1) 0 k in
    let s = asc i (omega arith) in
    subst (λ (y : ℕ). y < get_or (take n row) (i + 1) 0) (sym a) (subst (λ (y : ℕ). get_or row i 0 < y) (sym b) s)

-- what comes from place i on is not below `low`, where i is the first such place of the front, and the front is the row or has one
module _ (row : List ℕ) (asc : Ascends row) (low front i : ℕ) (bound : i ≤ front) (below : (j : ℕ) → j < i → get_or row j 0 < low)
    (above : (j : ℕ) → i ≤ j → j < front → low ≤ get_or row j 0)
    (reached : (front ≡ length row) ⊎ ((1 ≤ front) × (low ≤ get_or row (front - 1) 0))) where
  first_from : i < length row → low ≤ get_or row i 0
  first_from l = ⊎_elim (λ (m : i < front). above i (omega arith) m)
      (λ m. ⊎_elim (λ (e : front ≡ length row). absurd (omega arith))
      (λ r. let f : 1 ≤ front = r.0 in let low_is : low ≤ get_or row (front - 1) 0 = r.1 in let b = below (front - 1) (omega arith) in absurd (omega arith)) reached)
      (cases_lt i front)

  pub all_from : (f : ℕ) → member f (drop i row) ≡ true → low ≤ f
  all_from f m =
      let p = member_place f (drop i row) m in
      let l : i + p.0 < length row = omega (arith, p.1, length-drop i row) in
      let e : get_or row (i + p.0) 0 ≡ f = sym (get_or-drop i row p.0 0) ∙ p.2 in
      let a = first_from (omega arith) in
      subst (λ (y : ℕ). low ≤ y) e (⊎_elim
      (λ (z : 0 < p.0). let k = ascends_apart row asc i (i + p.0) (omega arith) l in omega arith)
      (λ z. subst (λ (n : ℕ). low ≤ get_or row n 0) (omega arith) a) (cases_lt 0 p.0))

-- all of a row is not below `low` where its first set is not
pub from_first : (low : ℕ) (row : List ℕ) → Sorted row → ((0 < length row) × (get_or row 0 0 < low) → ⊥) → (f : ℕ) → member f row ≡ true → low ≤ f
from_first low [] s h f m = member-none f m
from_first low (x ∷ xs) s h f m = ⊎_elim (λ (l : x < low). absurd (h (omega arith, l)))
    (λ (k : low ≤ x). ⊎_elim (λ e. omega arith) (λ n. let l = all_member (λ y. x < y) xs s.0 f n in omega arith) (member_cases f x xs m))
    (cases_lt x low)

-- the lowest that can stand in an ascending row stands first, if it stands there
pub stands_first : (low : ℕ) (near : List ℕ) → Sorted near → ((f : ℕ) → member f near ≡ true → low ≤ f) → member low near ≡ true
    → (rest : List ℕ) × (near ≡ low ∷ rest)
stands_first low [] s from m = member-none low m
stands_first low (x ∷ xs) s from m = ⊎_elim
    (λ e. (xs, ap (λ (y : ℕ). y ∷ xs) e))
    (λ n. let l = all_member (λ y. x < y) xs s.0 low n in let k = from x (member_head x xs) in absurd (omega arith))
    (member_cases low x xs m)

-- whether a set is in a span, as a test
abbrev pub within : ℕ → ℕ → ℕ → Bool
within lo up s = inside lo s && inside s up

within_between : (lo up s : ℕ) → within lo up s ≡ true → Between lo up s
within_between lo up s e = let p = and_parts (inside lo s) (inside s up) e in ((decides_sub lo s).0 p.0, (decides_sub s up).0 p.1)

between_within : (lo up s : ℕ) → Between lo up s → within lo up s ≡ true
between_within lo up s b = and_from (inside lo s) (inside s up) ((decides_sub lo s).1 b.0) ((decides_sub s up).1 b.1)

pub within_is : (lo up : ℕ) (b : Bool) (s : ℕ) → Decides b (Between lo up s) → b ≡ within lo up s
within_is lo up b s d = same_test b (within lo up s) (λ e. between_within lo up s (d.0 e)) (λ e. d.1 (within_between lo up s e))

-- ---- the sets up to one: of an ascending row, those at the front

none_kept : (p : ℕ → Bool) (xs : List ℕ) → ((y : ℕ) → member y xs ≡ true → p y ≡ false) → filter p xs ≡ []
none_kept p [] h = refl
none_kept p (x ∷ xs) h = ap (λ b. cond b (x ∷ filter p xs) (filter p xs)) (h x (member_head x xs)) ∙ none_kept p xs (λ y m. h y (member_tail y x xs m))

abbrev pub front : ℕ → List ℕ → List ℕ
front up row = take (prefix_len (λ s. leb s up) row) row

front_kept : (up : ℕ) (row : List ℕ) → Sorted row → front up row ≡ filter (λ s. leb s up) row
front_kept up [] s = refl
front_kept up (x ∷ xs) s = take_while-cons (λ y. leb y up) x xs ∙ step (leb x up) refl (front_kept up xs s.1)
  where
    step : (b : Bool) → leb x up ≡ b → front up xs ≡ filter (λ y. leb y up) xs
        → cond b (x ∷ front up xs) [] ≡ cond b (x ∷ filter (λ y. leb y up) xs) (filter (λ y. leb y up) xs)
    step true e h = ap (λ (ys : List ℕ). x ∷ ys) h
    step false e h = sym (none_kept (λ y. leb y up) xs (λ y m. let l = all_member (λ z. x < z) xs s.0 y m in let k = leb-false x up e in lt-leb y up (omega arith)))

pub ascends_front : (up : ℕ) (row : List ℕ) → Ascends row → Ascends (front up row)
ascends_front up row asc = subst Ascends (sym (front_kept up row (sorted_of row asc))) (ascends_of _ (sorted_kept (λ s. leb s up) row (sorted_of row asc)))

pub same_front : (lo up : ℕ) (row near : List ℕ) → Ascends near → ((f : ℕ) → Between lo up f → member f near ≡ member f row)
    → (f : ℕ) → Between lo up f → member f (front up near) ≡ member f row
same_front lo up row near asc same f b = ap (member f) (front_kept up near (sorted_of near asc)) ∙ same_test (member f (filter (λ s. leb s up) near)) (member f near)
    (λ m. (member_of_kept (λ s. leb s up) f near m).0) (λ m. member_kept (λ s. leb s up) f near m (le-leb f up (sub_le f up b.1))) ∙ same f b

-- ---- which sets of the span stand in the row, from its part near the span

module _ (row near : List ℕ) (lo up : ℕ) (same : (f : ℕ) → Between lo up f → member f near ≡ member f row) where
  pub none_stands : (b : Bool) → MatchBool b ((k : ℕ) × (k < length near) × HoldsAt (Between lo up) near k) (AllWithin (λ s. Between lo up s → ⊥) near 0 (length near))
      → Decides (not b) (NoneIn row lo up)
  none_stands true h =
      let there : member (get_or near h.0 0) row ≡ true = sym (same (get_or near h.0 0) (h.2 0)) ∙ member_at near h.0 h.1 in
      ((λ e. absurd (both_ways false refl e)), (λ n. absurd (both_ways (member (get_or near h.0 0) row) (n (get_or near h.0 0) (h.2 0)) there)))
  none_stands false h = (
    (λ _ f b. ⊎_elim
        (λ e. let p = member_place f near (same f b ∙ e) in absurd (h p.0 0 zero-le p.1 (subst (Between lo up) (sym p.2) b)))
        (λ e. e) (cases_Bool (member f row))),
    (λ _. refl),
  )

  -- all of them stand there where those of the near part are all of the span's
  pub all_stand : lo ⊆ up → up < 2 ^ 64 → Ascends near → (b : Bool) → Decides b (filter (within lo up) near ≡ sets_between lo up) → Decides b (AllIn row lo up)
  all_stand nested fits asc b d = (
    (λ e f i. sym (same f i) ∙ (member_of_kept (within lo up) f near
        (subst (λ (ys : List ℕ). member f ys ≡ true) (sym (d.0 e)) ((between_listed.exactly lo up f nested fits).1 i))).0),
    (λ a. d.1 (sorted_ext (filter (within lo up) near) (sets_between lo up)
        (sorted_kept (within lo up) near (sorted_of near asc)) (sorted_of (sets_between lo up) (between_listed.ascending lo up))
        (λ z m. (between_listed.exactly lo up z nested fits).1 (within_between lo up z (member_of_kept (within lo up) z near m).1))
        (λ z m. let i = (between_listed.exactly lo up z nested fits).0 m in
        member_kept (within lo up) z near (same z i ∙ a z i) (between_within lo up z i)))),
  )

-- ---- `eq` of two iterators of numbers: whether they give the same list

module _ {S T : Type 0} (steps : S → Option ℕ → S → Type 0) (others : T → Option ℕ → T → Type 0) (r : Bool) where
  abbrev Last : Option ℕ → Option ℕ → Type 0
  Last o p = MatchOption o (MatchOption p (r ≡ true) (λ _. r ≡ false)) (λ x. (r ≡ false) × IfSome p (λ y. eqb x y ≡ false))

  decides_not : {P : Type 0} → r ≡ false → (P → ⊥) → Decides r P
  decides_not h n = ((λ e. absurd (both_ways r h e)), (λ q. absurd (n q)))

  at_last : (o p : Option ℕ) (xs ys : List ℕ) (s u : S) (t w : T) → AlwaysYields steps (λ x. x) s xs → AlwaysYields others (λ y. y) t ys
      → steps s o u → others t p w → Last o p → Decides r (xs ≡ ys)
  at_last None None (x ∷ xs) ys s u t w e f a b h = absurd (e.0 u a)
  at_last None (Some y) (x ∷ xs) ys s u t w e f a b h = absurd (e.0 u a)
  at_last (Some x) None [] ys s u t w e f a b h = absurd (e x u a)
  at_last (Some x) (Some y) [] ys s u t w e f a b h = absurd (e x u a)
  at_last None None [] (y ∷ ys) s u t w e f a b h = absurd (f.0 w b)
  at_last None (Some y) [] [] s u t w e f a b h = absurd (f y w b)
  at_last (Some x) None (z ∷ xs) (y ∷ ys) s u t w e f a b h = absurd (f.0 w b)
  at_last (Some x) (Some y) (z ∷ xs) [] s u t w e f a b h = absurd (f y w b)
  at_last None None [] [] s u t w e f a b h = ((λ _. refl), (λ _. h))
  at_last None (Some y) [] (z ∷ ys) s u t w e f a b h = decides_not h (λ q. cc)
  at_last (Some x) None (z ∷ xs) [] s u t w e f a b h = decides_not h.0 (λ q. cc)
  at_last (Some x) (Some y) (x' ∷ xs) (y' ∷ ys) s u t w e f a b h = decides_not h.0 (λ q.
      let same : x ≡ y = (e.1 x u a).0 ∙ head_is q ∙ sym (f.1 y w b).0 in both_ways (eqb x y) h.1 (eq-eqb x y same))
    where
      head_is : x' ∷ xs ≡ y' ∷ ys → x' ≡ y'
      head_is q = cc

  along : (cs bs : List ℕ) (o p : Option ℕ) (xs ys : List ℕ) (s u : S) (t w : T) → AlwaysYields steps (λ x. x) s xs → AlwaysYields others (λ y. y) t ys
      → YieldsThen steps s cs o u → YieldsThen others t bs p w → AllZip (λ x y. eqb x y ≡ true) cs bs → Last o p → Decides r (xs ≡ ys)
  along [] [] o p xs ys s u t w e f a b z h = at_last o p xs ys s u t w e f (subst (λ j. steps j o u) (sym a.1) a.2) (subst (λ j. others j p w) (sym b.1) b.2) h
  along [] (y ∷ bs) o p xs ys s u t w e f a b z h = absurd z
  along (x ∷ cs) [] o p xs ys s u t w e f a b z h = absurd z
  along (x ∷ cs) (y ∷ bs) o p [] ys s u t w e f a b z h = absurd (e x a.1.0 a.1.1)
  along (x ∷ cs) (y ∷ bs) o p (x' ∷ xs) [] s u t w e f a b z h = absurd (f y b.1.0 b.1.1)
  along (x ∷ cs) (y ∷ bs) o p (x' ∷ xs) (y' ∷ ys) s u t w e f a b z h =
      let m = e.1 x a.1.0 a.1.1 in
      let n = f.1 y b.1.0 b.1.1 in
      let tie : x' ≡ y' = sym m.0 ∙ eqb-true x y z.0 ∙ n.0 in
      let d = along cs bs o p xs ys a.1.0 u b.1.0 w m.1 n.1 (a.0, a.1.2, a.2) (b.0, b.1.2, b.2) z.1 h in
      ((λ i. ap₂ (λ (k : ℕ) (ks : List ℕ). k ∷ ks) tie (d.0 i)), (λ q. d.1 (tail_is q)))
    where
      tail_is : x' ∷ xs ≡ y' ∷ ys → xs ≡ ys
      tail_is q = cc

pub decides_from_eq : {S U T : Type 0} {steps : S → Option ℕ → S → Type 0} {others : T → Option ℕ → T → Type 0} {s : S} {xs ys : List ℕ}
    (becomes : U → T → Type 0) (other : U) (r : Bool) → ComparesItemsByEq steps becomes others s other eqb r
    → YieldsList steps (λ x. x) s xs → ((it : T) → becomes other it → YieldsList others (λ y. y) it ys) → Decides r (xs ≡ ys)
decides_from_eq {steps = steps} {others = others} {s = s} {xs = xs} {ys = ys} becomes other r d e f =
    along steps others r d.1 d.2 d.3 d.4 xs ys s d.5 d.0 d.6 e.runs (f d.0 d.7).runs d.8 d.9 d.10 d.11
