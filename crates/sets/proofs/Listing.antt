-- The lists of a set's decisions and of the sets between two sets: what stands in them, that they ascend, and how long they are.
use Rattle.std.proofs.Common.{◌≡◌, ℕ, zero, suc, ◌+◌, ◌-◌, ◌*◌, ◌/◌, ◌%◌, ◌^◌, ◌<◌, ◌≤◌, Bool, true, false, cond, not, ◌&&◌, ◌||◌, eqb, leb, ◌⊎◌, ◌↔◌, List, [], ◌∷◌, map, length, sym, refl, ap, ◌∙◌, subst, ap₂, inl, inr, ⊎_elim, suc-le-suc, zero-le, le_of_suc-le-suc, not-suc-le-zero, add-zero, mul-le-mul_right, mod-lt, mod-eq_of_lt, zero-lt-suc, add_comm, eq-or-lt_of_le, pow-suc, zero-add, one-add, arith, lit<, length-append, pow_pos}
use lib.Arith.{lt-one}
use lib.Bits.{bit_and, bit_or, or_shifted_r}
use lib.Count.{ones, ones_cat, count_trailing_zeros, under}
use lib.ListN.{length-map}
use Rattle.std.proofs.lemmas.Nat.{shr_split, mod-pow-add}
use Rattle.std.proofs.lemmas.Bool.{cases_Bool, cases_eq, both_ways, eqb-true, eqb-false, eq-eqb, ne_eqb, leb-true, le-leb, or_cases, or_left, or_right, cases_lt}
use Rattle.sets.specs.Sets.{has, ◌∈◌, ◌∉◌, ◌⊆◌, ◌∖◌, single, Lowest, Between}
use Rattle.sets.specs.Lists.{member}
use Rattle.sets.specs.Walks.{decisions_below, decisions, between_below, sets_between, sets_from, Next}
use Rattle.sets.specs.Laws.{DecisionsListed, BetweenListed}
use Rattle.sets.proofs.Members.{has_zero, has_suc, has_none, has_high, has_or, has_minus, has_single, member_below, sub_lt, sub_le, and_second, or_second, or_least}
use Rattle.sets.proofs.Ascending.{member_head, member_tail, member_cases, member-none, member_append_left, member_append_right, member_append, member_map, member_of_map, member_kept, member_of_kept, all_member, all_of_members, Sorted, ascends_of, sorted_append, sorted_map, sorted_kept, sorted_ext}
use Rattle.sets.proofs.Successor.{after, half_lt}

-- ---- the digit above n others

pow_more : (n : ℕ) → 2 ^ suc n ≡ 2 ^ n + 2 ^ n
pow_more n = pow-suc 2 n ∙ omega arith

-- without decision n a set of n + 1 digits has n digits, and with it the rest has
top_out : (n s : ℕ) → s < 2 ^ suc n → n ∉ s → s < 2 ^ n
unfolding has
top_out n s h o =
    let q : s / 2 ^ n < 2 = top_digit n s h in
    let ne : s / 2 ^ n % 2 ≡ 1 → ⊥ = eqb-false (s / 2 ^ n % 2) 1 o in
    let z : s / 2 ^ n ≡ 0 = omega arith in
    let e : 0 * 2 ^ n + s % 2 ^ n ≡ s = ap (λ (x : ℕ). x * 2 ^ n + s % 2 ^ n) (sym z) ∙ shr_split s n in
    let l : s % 2 ^ n < 2 ^ n = mod-lt s (pow_pos n) in
    omega arith
  where
    top_digit : (n s : ℕ) → s < 2 ^ suc n → s / 2 ^ n < 2
    top_digit n s h = ⊎_elim (λ l. l)
        (λ (g : 2 ≤ s / 2 ^ n).
        let e : s / 2 ^ n * 2 ^ n + s % 2 ^ n ≡ s = shr_split s n in
        let m : 2 * 2 ^ n ≤ s / 2 ^ n * 2 ^ n = mul-le-mul_right (2 ^ n) g in
        let p : 2 ^ suc n ≡ 2 ^ n + 2 ^ n = pow_more n in
        absurd (omega arith))
        (cases_lt (s / 2 ^ n) 2)

top_in : (n s : ℕ) → s < 2 ^ suc n → n ∈ s → (2 ^ n ≤ s) × (s - 2 ^ n < 2 ^ n)
top_in n s h i = ⊎_elim
    (λ (l : s < 2 ^ n). absurd (both_ways (has s n) (has_high n s n l (omega arith)) i))
    (λ g. let p : 2 ^ suc n ≡ 2 ^ n + 2 ^ n = pow_more n in (g, omega arith))
    (cases_lt s (2 ^ n))

has_more : (n x d : ℕ) → x < 2 ^ n → has (x + 2 ^ n) d ≡ (has x d || eqb d n)
has_more n x d h =
    let e : bit_or x (1 * 2 ^ n) ≡ 1 * 2 ^ n + x = or_shifted_r 1 n x h in
    let one : 1 * 2 ^ n ≡ 2 ^ n = omega arith in
    let f : x + 2 ^ n ≡ bit_or x (2 ^ n) = let g : bit_or x (2 ^ n) ≡ bit_or x (1 * 2 ^ n) = ap (bit_or x) (sym one) in omega arith in
    ap (λ (y : ℕ). has y d) f ∙ has_or x (2 ^ n) d ∙ ap (λ (b : Bool). has x d || b) (has_single n d)

digit : (x : ℕ) → x < 2 → ones x ≡ cond (eqb x 1) 1 0
unfolding ones
digit zero h = refl
digit (suc zero) h = refl
digit (suc (suc x)) h = absurd (not-suc-le-zero (le_of_suc-le-suc (le_of_suc-le-suc h)))

-- how many decisions stand below n + 1
size_more : (n t : ℕ) → ones (t % 2 ^ suc n) ≡ cond (has t n) 1 0 + ones (t % 2 ^ n)
unfolding has
size_more n t =
    let l : t % 2 ^ n < 2 ^ n = mod-lt t (pow_pos n) in
    ap ones (ap (λ (k : ℕ). t % 2 ^ k) (sym (one-add n)) ∙ mod-pow-add t 1 n) ∙ ones_cat n (t / 2 ^ n % 2) (t % 2 ^ n) l
    ∙ ap (λ (x : ℕ). x + ones (t % 2 ^ n)) (digit (t / 2 ^ n % 2) (mod-lt (t / 2 ^ n) (zero-lt-suc 1)))

-- ---- the decisions of a set

last : (d n : ℕ) → d < suc n → (d ≡ n) ⊎ (d < n)
last d n l = eq-or-lt_of_le (le_of_suc-le-suc l)

here : (b : Bool) (n : ℕ) → b ≡ true → member n (cond b (n ∷ []) []) ≡ true
here true n e = member_head n []
here false n e = absurd (both_ways false refl e)

only : (b : Bool) (n d : ℕ) → member d (cond b (n ∷ []) []) ≡ true → (b ≡ true) × (n ≡ d)
only true n d h = ⊎_elim (λ e. (refl, e)) (λ m. member-none d m) (member_cases d n [] h)
only false n d h = member-none d h

to_decisions : (n s d : ℕ) → d < n → d ∈ s → member d (decisions_below n s) ≡ true
unfolding decisions_below
to_decisions zero s d l m = absurd (not-suc-le-zero l)
to_decisions (suc n) s d l m = ⊎_elim
    (λ e. member_append_right d (decisions_below n s) (cond (has s n) (n ∷ []) [])
    (subst (λ (x : ℕ). member x (cond (has s n) (n ∷ []) []) ≡ true) (sym e) (here (has s n) n (ap (has s) (sym e) ∙ m))))
    (λ (k : d < n). member_append_left d (decisions_below n s) (cond (has s n) (n ∷ []) []) (to_decisions n s d k m))
    (last d n l)

of_decisions : (n s d : ℕ) → member d (decisions_below n s) ≡ true → (d < n) × (d ∈ s)
unfolding decisions_below
of_decisions zero s d h = member-none d h
of_decisions (suc n) s d h = ⊎_elim
    (λ m. let k = of_decisions n s d m in (omega (arith, k.0), k.1))
    (λ m. let k = only (has s n) n d m in let e = k.1 in (omega arith, ap (has s) (sym e) ∙ k.0))
    (member_append d (decisions_below n s) (cond (has s n) (n ∷ []) []) h)

sorted_one : (b : Bool) (n : ℕ) → Sorted (cond b (n ∷ []) [])
sorted_one true n = (tt, tt)
sorted_one false n = tt

pub sorted_decisions : (n s : ℕ) → Sorted (decisions_below n s)
unfolding decisions_below
sorted_decisions zero s = tt
sorted_decisions (suc n) s =
    sorted_append (decisions_below n s) (cond (has s n) (n ∷ []) []) (sorted_decisions n s) (sorted_one (has s n) n)
    (λ x y p q. let a = (of_decisions n s x p).0 in let e = (only (has s n) n y q).1 in omega arith)

length_one : (b : Bool) (n : ℕ) → length (cond b (n ∷ []) []) ≡ cond b 1 0
length_one true n = refl
length_one false n = refl

mod_one : (t : ℕ) → t % 1 ≡ 0
mod_one t = omega arith

length_decisions : (n s : ℕ) → length (decisions_below n s) ≡ ones (s % 2 ^ n)
unfolding decisions_below ones
length_decisions zero s = sym (ap ones (mod_one s))
length_decisions (suc n) s =
    length-append (decisions_below n s) (cond (has s n) (n ∷ []) [])
    ∙ ap₂ (λ (x y : ℕ). x + y) (length_decisions n s) (length_one (has s n) n)
    ∙ add_comm (ones (s % 2 ^ n)) (cond (has s n) 1 0) ∙ sym (size_more n s)

pub decisions_listed : DecisionsListed
decisions_listed = record {
  exactly = λ s d h. ((λ m. (of_decisions 64 s d m).1), (λ m. to_decisions 64 s d (member_below 64 s d h m) m));
  ascending = λ s. ascends_of (decisions s) (sorted_decisions 64 s);
  counted = λ s h. length_decisions 64 s ∙ ap ones (mod-eq_of_lt h);
}

-- ---- the lowest decision

-- an even set has no decision 0, and the others stand one place lower in its half
higher : (s t : ℕ) → s % 2 ≡ 0 → ((d : ℕ) → d ∈ s / 2 → t ≤ d) → (e : ℕ) → e ∈ s → suc t ≤ e
higher s t z f zero m = absurd (both_ways (has s 0) (has_zero s ∙ ap (λ (x : ℕ). eqb x 1) z) m)
higher s t z f (suc e) m = suc-le-suc (f e (sym (has_suc s e) ∙ m))

-- as the machine counts the zeros below it
pub lowest_trailing : (k s : ℕ) → s < 2 ^ k → ((count_trailing_zeros k s ≡ k) × (s ≡ 0)) ⊎ ((count_trailing_zeros k s < k) × Lowest (count_trailing_zeros k s) s)
unfolding count_trailing_zeros
lowest_trailing zero s h = inl (refl, lt-one h)
lowest_trailing (suc k) s h = by_digit (s % 2) refl (mod-lt s (zero-lt-suc 1)) (lowest_trailing k (s / 2) (half_lt k s h))
  where
    by_digit : (x : ℕ) → s % 2 ≡ x → x < 2
        → ((count_trailing_zeros k (s / 2) ≡ k) × (s / 2 ≡ 0)) ⊎ ((count_trailing_zeros k (s / 2) < k) × Lowest (count_trailing_zeros k (s / 2)) (s / 2))
        → ((under x (count_trailing_zeros k (s / 2)) ≡ suc k) × (s ≡ 0)) ⊎ ((under x (count_trailing_zeros k (s / 2)) < suc k) × Lowest (under x (count_trailing_zeros k (s / 2))) s)
    by_digit zero e l c = ⊎_elim
        (λ (p : (count_trailing_zeros k (s / 2) ≡ k) × (s / 2 ≡ 0)). let q = p.1 in inl (ap suc p.0, omega arith))
        (λ (p : (count_trailing_zeros k (s / 2) < k) × Lowest (count_trailing_zeros k (s / 2)) (s / 2)).
        inr (suc-le-suc p.0, (has_suc s (count_trailing_zeros k (s / 2)) ∙ p.1.0, higher s (count_trailing_zeros k (s / 2)) e p.1.1))) c
    by_digit (suc zero) e l c = inr (zero-lt-suc k, (has_zero s ∙ eq-eqb (s % 2) 1 e, λ d m. zero-le))
    by_digit (suc (suc x)) e l c = absurd (not-suc-le-zero (le_of_suc-le-suc (le_of_suc-le-suc l)))

pub lowest_first : (s d : ℕ) → d < 64 → Lowest d s → decisions s ≡ d ∷ decisions (s ∖ single d)
lowest_first s d h low =
    let rest = decisions (s ∖ single d) in
    sorted_ext (decisions s) (d ∷ rest) (sorted_decisions 64 s) (
      all_of_members (λ e. d < e) rest (λ e m.
          let k = without e (of_decisions 64 (s ∖ single d) e m).1 in
          let l = low.1 e k.0 in let ne = k.1 in omega arith),
      sorted_decisions 64 (s ∖ single d),
    )
    (λ e m. let k = of_decisions 64 s e m in ⊎_elim
    (λ (q : d ≡ e). subst (λ (x : ℕ). member x (d ∷ rest) ≡ true) q (member_head d rest))
    (λ ne. member_tail e d rest (to_decisions 64 (s ∖ single d) e k.0 (keep e k.1 ne)))
    (cases_eq d e))
    (λ e m. ⊎_elim
    (λ (q : d ≡ e). to_decisions 64 s e (subst (λ (x : ℕ). x < 64) q h) (ap (has s) (sym q) ∙ low.0))
    (λ n. let k = of_decisions 64 (s ∖ single d) e n in to_decisions 64 s e k.0 (without e k.1).0)
    (member_cases e d rest m))
  where
    without : (e : ℕ) → e ∈ s ∖ single d → (e ∈ s) × (d ≡ e → ⊥)
    without e m =
        let p : (has s e && not (eqb e d)) ≡ true = ap (λ (b : Bool). has s e && not b) (sym (has_single d e)) ∙ sym (has_minus s (single d) e) ∙ m in
        parts (has s e) (eqb e d) p (λ q. eq-eqb e d (sym q))
      where
        parts : (a b : Bool) → (a && not b) ≡ true → (d ≡ e → b ≡ true) → (a ≡ true) × (d ≡ e → ⊥)
        parts true true p f = absurd (both_ways false refl p)
        parts true false p f = (refl, λ q. both_ways false refl (f q))
        parts false b p f = absurd (both_ways false refl p)

    keep : (e : ℕ) → e ∈ s → (d ≡ e → ⊥) → e ∈ s ∖ single d
    keep e m ne =
        has_minus s (single d) e ∙ ap (λ (b : Bool). has s e && not b) (has_single d e ∙ ne_eqb e d (λ q. ne (sym q)))
        ∙ ap (λ (b : Bool). b && true) m

pub decisions_none : (s : ℕ) → s ≡ 0 → decisions s ≡ []
decisions_none s e =
    ap decisions e
    ∙ sorted_ext (decisions 0) [] (sorted_decisions 64 0) tt
    (λ d m. absurd (both_ways (has 0 d) (has_none d) (of_decisions 64 0 d m).1)) (λ d m. member-none d m)

-- ---- the sets between two sets

-- what stands in the list at n digits
Within : ℕ → ℕ → ℕ → ℕ → Type 0
Within n lo up s = (s < 2 ^ n) × ((d : ℕ) → d < n → d ∈ lo → d ∈ s) × ((d : ℕ) → d ∈ s → d ∈ up)

gone : (b : Bool) (x : ℕ) (xs : List ℕ) → member x (cond b [] xs) ≡ true → (b ≡ false) × (member x xs ≡ true)
gone true x xs h = member-none x h
gone false x xs h = (refl, h)

stay : (b : Bool) (x : ℕ) (xs : List ℕ) → b ≡ false → member x xs ≡ true → member x (cond b [] xs) ≡ true
stay true x xs e h = absurd (both_ways true e refl)
stay false x xs e h = h

came : (b : Bool) (x : ℕ) (xs : List ℕ) → member x (cond b xs []) ≡ true → (b ≡ true) × (member x xs ≡ true)
came true x xs h = (refl, h)
came false x xs h = member-none x h

come : (b : Bool) (x : ℕ) (xs : List ℕ) → b ≡ true → member x xs ≡ true → member x (cond b xs []) ≡ true
come true x xs e h = h
come false x xs e h = absurd (both_ways false refl e)

within_low : (n lo up s : ℕ) → n ∉ lo → Within n lo up s → Within (suc n) lo up s
unfolding Within
within_low n lo up s o w =
    let p : 2 ^ suc n ≡ 2 ^ n + 2 ^ n = pow_more n in
    let l = w.0 in (
      omega arith,
      (λ d k m. ⊎_elim (λ e. absurd (both_ways (has lo d) (ap (has lo) e ∙ o) m)) (λ j. w.1 d j m) (last d n k)),
      w.2,
    )

within_high : (n lo up x : ℕ) → n ∈ up → Within n lo up x → Within (suc n) lo up (x + 2 ^ n)
unfolding Within
within_high n lo up x i w =
    let p : 2 ^ suc n ≡ 2 ^ n + 2 ^ n = pow_more n in
    let l = w.0 in (
      omega arith,
      (λ d k m. has_more n x d w.0 ∙ ⊎_elim (λ e. or_right (has x d) (eqb d n) (eq-eqb d n e)) (λ j. or_left (has x d) (eqb d n) (w.1 d j m)) (last d n k)),
      (λ d m. ⊎_elim (λ a. w.2 d a) (λ b. ap (has up) (eqb-true d n b) ∙ i) (or_cases (has x d) (eqb d n) (sym (has_more n x d w.0) ∙ m))),
    )

of_between : (n lo up s : ℕ) → member s (between_below n lo up) ≡ true → Within n lo up s
unfolding between_below Within
of_between zero lo up s h =
    ⊎_elim (λ (e : 0 ≡ s). subst (Within zero lo up) e (lit< tt, (λ d l m. absurd (not-suc-le-zero l)), (λ d m. absurd (both_ways (has 0 d) (has_none d) m))))
    (λ m. member-none s m) (member_cases s 0 [] h)
of_between (suc n) lo up s h =
    let rs = between_below n lo up in
    ⊎_elim
    (λ a. let g = gone (has lo n) s rs a in within_low n lo up s g.0 (of_between n lo up s g.1))
    (λ b.
    let g = came (has up n) s (map (λ x. x + 2 ^ n) rs) b in
    let q = member_of_map (λ x. x + 2 ^ n) s rs g.1 in
    subst (Within (suc n) lo up) q.2 (within_high n lo up q.0 g.0 (of_between n lo up q.0 q.1)))
    (member_append s (cond (has lo n) [] rs) (cond (has up n) (map (λ x. x + 2 ^ n) rs) []) h)

to_between : (n lo up s : ℕ) → Within n lo up s → member s (between_below n lo up) ≡ true
unfolding between_below Within
to_between zero lo up s w = subst (λ (x : ℕ). member x (0 ∷ []) ≡ true) (sym (lt-one w.0)) (member_head 0 [])
to_between (suc n) lo up s w =
    let rs = between_below n lo up in
    ⊎_elim
    (λ (i : n ∈ s).
    let t = top_in n s w.0 i in
    let e : s - 2 ^ n + 2 ^ n ≡ s = omega (arith, t.0) in
    let same : (d : ℕ) → has s d ≡ (has (s - 2 ^ n) d || eqb d n) = λ d. ap (λ (y : ℕ). has y d) (sym e) ∙ has_more n (s - 2 ^ n) d t.1 in
    let inner : Within n lo up (s - 2 ^ n) = (
      t.1,
      (λ d l m. ⊎_elim (λ a. a) (λ b. let q = eqb-true d n b in absurd (omega arith)) (or_cases (has (s - 2 ^ n) d) (eqb d n) (sym (same d) ∙ w.1 d (omega arith) m))),
      (λ d m. w.2 d (same d ∙ or_left (has (s - 2 ^ n) d) (eqb d n) m)),
    ) in
    member_append_right s (cond (has lo n) [] rs) (cond (has up n) (map (λ x. x + 2 ^ n) rs) [])
    (come (has up n) s (map (λ x. x + 2 ^ n) rs) (w.2 n i)
    (subst (λ (y : ℕ). member y (map (λ x. x + 2 ^ n) rs) ≡ true) e (member_map (λ x. x + 2 ^ n) (s - 2 ^ n) rs (to_between n lo up (s - 2 ^ n) inner)))))
    (λ (o : n ∉ s).
    member_append_left s (cond (has lo n) [] rs) (cond (has up n) (map (λ x. x + 2 ^ n) rs) [])
    (stay (has lo n) s rs
    (⊎_elim (λ (m : n ∈ lo). absurd (both_ways (has s n) o (w.1 n (omega arith) m))) (λ f. f) (cases_Bool (has lo n)))
    (to_between n lo up s (top_out n s w.0 o, (λ d l m. w.1 d (omega arith) m), w.2))))
    (cases_Bool (has s n))

pub in_between : (lo up s : ℕ) → lo ⊆ up → up < 2 ^ 64 → member s (sets_between lo up) ≡ true → Between lo up s
unfolding Within
in_between lo up s h l m =
    let w = of_between 64 lo up s m in
    ((λ d i. w.1 d (member_below 64 lo d (sub_lt 64 lo up h l) i) i), w.2)

pub to_sets_between : (lo up s : ℕ) → up < 2 ^ 64 → Between lo up s → member s (sets_between lo up) ≡ true
unfolding Within
to_sets_between lo up s l b = to_between 64 lo up s (sub_lt 64 s up b.1 l, (λ d k m. b.0 d m), b.1)

sorted_gone : (b : Bool) (xs : List ℕ) → Sorted xs → Sorted (cond b [] xs)
sorted_gone true xs s = tt
sorted_gone false xs s = s

sorted_come : (b : Bool) (xs : List ℕ) → Sorted xs → Sorted (cond b xs [])
sorted_come true xs s = s
sorted_come false xs s = tt

sorted_between : (n lo up : ℕ) → Sorted (between_below n lo up)
unfolding between_below Within
sorted_between zero lo up = (tt, tt)
sorted_between (suc n) lo up =
    let rs = between_below n lo up in
    let ih : Sorted rs = sorted_between n lo up in
    sorted_append (cond (has lo n) [] rs) (cond (has up n) (map (λ x. x + 2 ^ n) rs) [])
    (sorted_gone (has lo n) rs ih) (sorted_come (has up n) (map (λ x. x + 2 ^ n) rs) (sorted_map (λ x. x + 2 ^ n) rs (λ x y l. omega arith) ih))
    (λ x y p q.
    let a = (of_between n lo up x (gone (has lo n) x rs p).1).0 in
    let e = member_of_map (λ z. z + 2 ^ n) y rs (came (has up n) y (map (λ z. z + 2 ^ n) rs) q).1 in
    let f = e.2 in omega arith)

length_gone : (b : Bool) (xs : List ℕ) → length (cond b [] xs) ≡ cond b 0 (length xs)
length_gone true xs = refl
length_gone false xs = refl

length_come : (b : Bool) (xs : List ℕ) → length (cond b xs []) ≡ cond b (length xs) 0
length_come true xs = refl
length_come false xs = refl

-- where the lower set lies inside the upper one, an open decision doubles the count, and any other keeps it
doubled : (low up : Bool) (c k : ℕ) → (low ≡ true → up ≡ true) → c ≡ 2 ^ k → cond low 0 c + cond up c 0 ≡ 2 ^ (cond (up && not low) 1 0 + k)
doubled true true c k f e = zero-add c ∙ e ∙ ap (λ (x : ℕ). 2 ^ x) (sym (zero-add k))
doubled true false c k f e = absurd (both_ways false refl (f refl))
doubled false true c k f e =
    ap₂ (λ (x y : ℕ). x + y) e e ∙ sym (pow_more k) ∙ ap (λ (x : ℕ). 2 ^ x) (sym (one-add k))
doubled false false c k f e = add-zero c ∙ e ∙ ap (λ (x : ℕ). 2 ^ x) (sym (zero-add k))

length_between : (n lo up : ℕ) → lo ⊆ up → length (between_below n lo up) ≡ 2 ^ ones ((up ∖ lo) % 2 ^ n)
unfolding between_below ones
length_between zero lo up h = sym (ap (λ (x : ℕ). 2 ^ ones x) (mod_one (up ∖ lo)))
length_between (suc n) lo up h =
    let rs = between_below n lo up in
    length-append (cond (has lo n) [] rs) (cond (has up n) (map (λ x. x + 2 ^ n) rs) [])
    ∙ ap₂ (λ (x y : ℕ). x + y) (length_gone (has lo n) rs) (length_come (has up n) (map (λ x. x + 2 ^ n) rs) ∙ ap (λ (x : ℕ). cond (has up n) x 0) (length-map rs (λ x. x + 2 ^ n)))
    ∙ doubled (has lo n) (has up n) (length rs) (ones ((up ∖ lo) % 2 ^ n)) (h n) (length_between n lo up h)
    ∙ ap (λ (b : Bool). 2 ^ (cond b 1 0 + ones ((up ∖ lo) % 2 ^ n))) (sym (has_minus up lo n))
    ∙ ap (λ (x : ℕ). 2 ^ x) (sym (size_more n (up ∖ lo)))

minus_lt : (n s t : ℕ) → s < 2 ^ n → s ∖ t < 2 ^ n
minus_lt n s t h = sub_lt n (s ∖ t) s (λ d m. first (has s d) (has t d) (sym (has_minus s t d) ∙ m)) h
  where
    first : (a b : Bool) → (a && not b) ≡ true → a ≡ true
    first true b e = refl
    first false b e = absurd (both_ways false refl e)

-- ---- going through them

module _ (lo up s : ℕ) (nested : lo ⊆ up) (fits : up < 2 ^ 64) (inside : Between lo up s) where
  pub in_from : (x z : ℕ) → member z (sets_from x lo up) ≡ true → Between lo up z × (x ≤ z)
  in_from x z m =
      let k = member_of_kept (λ y. leb x y) z (sets_between lo up) m in
      (in_between lo up z nested fits k.0, leb-true x z k.1)

  pub to_from : (x z : ℕ) → Between lo up z → x ≤ z → member z (sets_from x lo up) ≡ true
  to_from x z b l = member_kept (λ y. leb x y) z (sets_between lo up) (to_sets_between lo up z fits b) (le-leb x z l)

  pub sorted_from : (x : ℕ) → Sorted (sets_from x lo up)
  sorted_from x = sorted_kept (λ y. leb x y) (sets_between lo up) (sorted_between 64 lo up)

  -- s comes first, and then what comes from the next one on
  pub from_next : (x : ℕ) → Next lo up s x → sets_from s lo up ≡ s ∷ sets_from x lo up
  from_next x n =
      sorted_ext (sets_from s lo up) (s ∷ sets_from x lo up) (sorted_from s)
      (all_of_members (λ z. s < z) (sets_from x lo up) (λ z m. let l = (in_from x z m).1 in let k = n.0 in omega arith), sorted_from x)
      (λ z m. let k = in_from s z m in ⊎_elim
      (λ (e : s ≡ z). subst (λ (y : ℕ). member y (s ∷ sets_from x lo up) ≡ true) e (member_head s (sets_from x lo up)))
      (λ ne. let l = k.1 in member_tail z s (sets_from x lo up) (to_from x z k.0 (n.1 z k.0 (omega arith))))
      (cases_eq s z))
      (λ z m. ⊎_elim
      (λ (e : s ≡ z). subst (λ (y : ℕ). member y (sets_from s lo up) ≡ true) e (to_from s s inside (omega arith)))
      (λ q. let k = in_from x z q in let a = k.1 in let b = n.0 in to_from s z k.0 (omega arith))
      (member_cases z s (sets_from x lo up) m))

  -- the upper set comes last
  pub from_last : s ≡ up → sets_from s lo up ≡ s ∷ []
  from_last e =
      sorted_ext (sets_from s lo up) (s ∷ []) (sorted_from s) (tt, tt)
      (λ z m. let k = in_from s z m in
      let a = k.1 in let b = sub_le z up k.0.1 in
      let same : s ≡ z = omega arith in
      subst (λ (y : ℕ). member y (s ∷ []) ≡ true) same (member_head s []))
      (λ z m. ⊎_elim
      (λ (q : s ≡ z). subst (λ (y : ℕ). member y (sets_from s lo up) ≡ true) q (to_from s s inside (omega arith)))
      (λ q. member-none z q)
      (member_cases z s [] m))

  -- where those above s are those from `first` on, these come after s
  pub from_after : (first : ℕ) (rest : List ℕ) → ((f : ℕ) → Between lo up f → (s < f) ↔ (first ≤ f)) → sets_from s lo up ≡ s ∷ rest → sets_from first lo up ≡ rest
  from_after first rest h e =
      let sorted : Sorted (s ∷ rest) = subst Sorted e (sorted_from s) in
      sorted_ext (sets_from first lo up) rest (sorted_from first) sorted.1
      (λ z m. let k = in_from first z m in let l : s < z = (h z k.0).1 k.1 in ⊎_elim
      (λ (q : s ≡ z). absurd (omega arith)) (λ n. n)
      (member_cases z s rest (subst (λ (ys : List ℕ). member z ys ≡ true) e (to_from s z k.0 (omega arith)))))
      (λ z m.
      let k = in_from s z (subst (λ (ys : List ℕ). member z ys ≡ true) (sym e) (member_tail z s rest m)) in
      to_from first z k.0 ((h z k.0).0 (all_member (λ y. s < y) rest sorted.0 z m)))

  -- the code's step
  pub after_inside : Between lo up (after 64 lo up s)
  after_inside = (
    or_second (bit_and (2 ^ 64 - (up - s)) up) lo,
    or_least (bit_and (2 ^ 64 - (up - s)) up) lo up (and_second (2 ^ 64 - (up - s)) up) nested,
  )

-- `(!(missing - 1) & u) | l`, where `missing` is `u - s`
pub is_after : (lo up s l u : ℕ) → l ≡ lo → u ≡ up → s < u → bit_or (bit_and (18446744073709551615 - (u - s - 1)) u) l ≡ after 64 lo up s
is_after lo up s l u p q h =
    let e : 18446744073709551615 - (u - s - 1) ≡ 2 ^ 64 - (u - s) = omega arith in
    ap (λ (x : ℕ). bit_or (bit_and x u) l) e ∙ ap₂ (λ (x y : ℕ). bit_or (bit_and (2 ^ 64 - (x - s)) x) y) q p

-- from the lower set on, all of them come
pub from_first : (lo up : ℕ) → lo ⊆ up → up < 2 ^ 64 → sets_from lo lo up ≡ sets_between lo up
from_first lo up h l =
    sorted_ext (sets_from lo lo up) (sets_between lo up) (sorted_kept (λ y. leb lo y) (sets_between lo up) (sorted_between 64 lo up)) (sorted_between 64 lo up)
    (λ z m. (member_of_kept (λ y. leb lo y) z (sets_between lo up) m).0)
    (λ z m. member_kept (λ y. leb lo y) z (sets_between lo up) m (le-leb lo z (sub_le lo z (in_between lo up z h l m).0)))

-- ---- the law by name

pub between_listed : BetweenListed
between_listed = record {
  exactly = λ lo up s h l. (in_between lo up s h l, to_sets_between lo up s l);
  ascending = λ lo up. ascends_of (sets_between lo up) (sorted_between 64 lo up);
  counted = λ lo up h l. length_between 64 lo up h ∙ ap (λ (x : ℕ). 2 ^ ones x) (mod-eq_of_lt (minus_lt 64 up lo l));
  starts = from_first;
}
