-- Membership in sets that are numbers: digit by digit, and from it the laws of subset, intersection, union and difference.
use Rattle.std.proofs.Common.{◌≡◌, ℕ, zero, suc, ◌+◌, ◌*◌, ◌/◌, ◌%◌, ◌^◌, ◌<◌, ◌≤◌, Bool, true, false, not, ◌&&◌, ◌||◌, eqb, ◌⊎◌, Decides, sym, refl, ap, ◌∙◌, ap₂, ⊎_elim, le_trans, le_of_eq, le_of_suc-le-suc, not-suc-le-zero, lt_of_le_of_lt, mod-lt, zero-lt-suc, pow-suc, div-add-mod', mul-div_cancel, one-add, arith, pow_mono, shr-shr}
use native.Mathlib.Nat.{div-eq_of_lt, mul-mod_left}
use lib.Dec.{eqb-suc-zero, eqb-zero-suc, eqb-suc-suc}
use lib.Arith.{bin_ind}
use lib.Bits.{bit_and, bit_or, bit_xor, and_shr, and_mod, or_shr, or_mod, xor_shr, xor_mod, and_le_r}
use Rattle.std.proofs.lemmas.Bool.{cases_Bool, cases_lt, both_ways, eqb-true, eqb-false, and_parts, and_from, or_cases, or_left, or_right}
use Rattle.std.proofs.lemmas.Bool.Decides.{Decides-eqb, Decides-like}
use Rattle.sets.specs.Sets.{has, ◌∈◌, ◌∉◌, ◌⊆◌, ◌∩◌, ◌∪◌, ◌∖◌, single}
use Rattle.sets.specs.Laws.{Extensional, Order, Members}

-- ---- the lowest digit, and the rest

shr_suc : (s d : ℕ) → s / 2 ^ suc d ≡ s / 2 / 2 ^ d
shr_suc s d = ap (λ (k : ℕ). s / 2 ^ k) (sym (one-add d)) ∙ sym (shr-shr s 1 d)

div_one : (s : ℕ) → s / 1 ≡ s
div_one s = omega arith

pub has_zero : (s : ℕ) → has s 0 ≡ eqb (s % 2) 1
unfolding has
has_zero s = ap (λ (x : ℕ). eqb (x % 2) 1) (div_one s)

pub has_suc : (s d : ℕ) → has s (suc d) ≡ has (s / 2) d
unfolding has
has_suc s d = ap (λ (x : ℕ). eqb (x % 2) 1) (shr_suc s d)

pub has_none : (d : ℕ) → has 0 d ≡ false
has_none zero = has_zero 0
has_none (suc d) = has_suc 0 d ∙ has_none d

-- a set below 2 ^ n has no decision from n on
pub has_high : (n s d : ℕ) → s < 2 ^ n → n ≤ d → d ∉ s
unfolding has
has_high n s d h k =
    let l : s < 2 ^ d = omega (arith, h, pow_mono k) in
    ap (λ (x : ℕ). eqb (x % 2) 1) (div-eq_of_lt l)

pub member_below : (n s d : ℕ) → s < 2 ^ n → d ∈ s → d < n
member_below n s d h m = ⊎_elim (λ l. l) (λ k. absurd (both_ways (has s d) (has_high n s d h k) m)) (cases_lt d n)

-- ---- two numbers with the same digits are equal

pub same_digit : (s t : ℕ) → eqb (s % 2) 1 ≡ eqb (t % 2) 1 → s % 2 ≡ t % 2
same_digit s t e = ⊎_elim
    (λ (o : eqb (s % 2) 1 ≡ true). eqb-true (s % 2) 1 o ∙ sym (eqb-true (t % 2) 1 (sym e ∙ o)))
    (λ (o : eqb (s % 2) 1 ≡ false).
    let ns : s % 2 ≡ 1 → ⊥ = eqb-false (s % 2) 1 o in
    let nt : t % 2 ≡ 1 → ⊥ = eqb-false (t % 2) 1 (sym e ∙ o) in
    let ls : s % 2 < 2 = mod-lt s (zero-lt-suc 1) in
    let lt : t % 2 < 2 = mod-lt t (zero-lt-suc 1) in
    omega arith)
    (cases_Bool (eqb (s % 2) 1))

by_digits : (s t : ℕ) → s / 2 ≡ t / 2 → s % 2 ≡ t % 2 → s ≡ t
by_digits s t hi lo = sym (div-add-mod' s 2) ∙ ap₂ (λ (x y : ℕ). x * 2 + y) hi lo ∙ div-add-mod' t 2

no_digits : (t : ℕ) → ((d : ℕ) → has t d ≡ false) → 0 ≡ t
no_digits =
    bin_ind (λ (t : ℕ). ((d : ℕ) → has t d ≡ false) → 0 ≡ t) (λ h. refl)
    (λ t ih h. by_digits 0 t (ih (λ d. sym (has_suc t d) ∙ h (suc d)))
    (same_digit 0 t (sym (sym (has_zero t) ∙ h 0))))

-- the same test at every decision
pub ext : (s t : ℕ) → ((d : ℕ) → has s d ≡ has t d) → s ≡ t
ext =
    bin_ind (λ (s : ℕ). (t : ℕ) → ((d : ℕ) → has s d ≡ has t d) → s ≡ t)
    (λ t h. no_digits t (λ d. sym (h d) ∙ has_none d))
    (λ s ih t h. by_digits s t
    (ih (t / 2) (λ d. sym (has_suc s d) ∙ h (suc d) ∙ has_suc t d))
    (same_digit s t (sym (has_zero s) ∙ h 0 ∙ has_zero t)))

-- two tests that imply one another are equal
pub same_test : (a b : Bool) → (a ≡ true → b ≡ true) → (b ≡ true → a ≡ true) → a ≡ b
same_test true b f g = sym (f refl)
same_test false true f g = g refl
same_test false false f g = refl

pub sub_antisym : (s t : ℕ) → s ⊆ t → t ⊆ s → s ≡ t
sub_antisym s t h k = ext s t (λ d. same_test (has s d) (has t d) (h d) (k d))

pub extensional : Extensional
extensional s t h = sub_antisym s t (λ d. (h d).0) (λ d. (h d).1)

-- ---- intersection, union and difference, at one decision

digit_lt : (n : ℕ) → n % 2 < 2
digit_lt n = mod-lt n (zero-lt-suc 1)

not_digit {ℓ} : {A : Type ℓ} {x : ℕ} → suc (suc x) < 2 → A
not_digit h = absurd (not-suc-le-zero (le_of_suc-le-suc (le_of_suc-le-suc h)))

and_digit : (x y : ℕ) → x < 2 → y < 2 → eqb (bit_and x y) 1 ≡ (eqb x 1 && eqb y 1)
and_digit zero y hx hy = refl
and_digit (suc zero) zero hx hy = refl
and_digit (suc zero) (suc zero) hx hy = refl
and_digit (suc zero) (suc (suc y)) hx hy = not_digit hy
and_digit (suc (suc x)) y hx hy = not_digit hx

or_digit : (x y : ℕ) → x < 2 → y < 2 → eqb (bit_or x y) 1 ≡ (eqb x 1 || eqb y 1)
or_digit zero y hx hy = refl
or_digit (suc zero) zero hx hy = refl
or_digit (suc zero) (suc zero) hx hy = refl
or_digit (suc zero) (suc (suc y)) hx hy = not_digit hy
or_digit (suc (suc x)) y hx hy = not_digit hx

-- whether just one of two tests passes
abbrev pub one_of : Bool → Bool → Bool
one_of true b = not b
one_of false b = b

xor_digit : (x y : ℕ) → x < 2 → y < 2 → eqb (bit_xor x y) 1 ≡ one_of (eqb x 1) (eqb y 1)
xor_digit zero y hx hy = refl
xor_digit (suc zero) zero hx hy = refl
xor_digit (suc zero) (suc zero) hx hy = refl
xor_digit (suc zero) (suc (suc y)) hx hy = not_digit hy
xor_digit (suc (suc x)) y hx hy = not_digit hx

pub has_and : (a b d : ℕ) → has (a ∩ b) d ≡ (has a d && has b d)
unfolding has
has_and a b d =
    ap (λ (x : ℕ). eqb (x % 2) 1) (and_shr a b d) ∙ ap (λ (x : ℕ). eqb x 1) (and_mod (a / 2 ^ d) (b / 2 ^ d) 1)
    ∙ and_digit (a / 2 ^ d % 2) (b / 2 ^ d % 2) (digit_lt (a / 2 ^ d)) (digit_lt (b / 2 ^ d))

pub has_or : (a b d : ℕ) → has (a ∪ b) d ≡ (has a d || has b d)
unfolding has
has_or a b d =
    ap (λ (x : ℕ). eqb (x % 2) 1) (or_shr a b d) ∙ ap (λ (x : ℕ). eqb x 1) (or_mod (a / 2 ^ d) (b / 2 ^ d) 1)
    ∙ or_digit (a / 2 ^ d % 2) (b / 2 ^ d % 2) (digit_lt (a / 2 ^ d)) (digit_lt (b / 2 ^ d))

pub has_xor : (a b d : ℕ) → has (bit_xor a b) d ≡ one_of (has a d) (has b d)
unfolding has
has_xor a b d =
    ap (λ (x : ℕ). eqb (x % 2) 1) (xor_shr a b d) ∙ ap (λ (x : ℕ). eqb x 1) (xor_mod (a / 2 ^ d) (b / 2 ^ d) 1)
    ∙ xor_digit (a / 2 ^ d % 2) (b / 2 ^ d % 2) (digit_lt (a / 2 ^ d)) (digit_lt (b / 2 ^ d))

pub has_minus : (a b d : ℕ) → has (a ∖ b) d ≡ (has a d && not (has b d))
has_minus a b d =
    has_xor a (a ∩ b) d ∙ ap (one_of (has a d)) (has_and a b d) ∙ alone (has a d) (has b d)
  where
    alone : (x y : Bool) → one_of x (x && y) ≡ (x && not y)
    alone true y = refl
    alone false y = refl

pub in_and : (a b d : ℕ) → d ∈ a ∩ b → (d ∈ a) × (d ∈ b)
in_and a b d h = and_parts (has a d) (has b d) (sym (has_and a b d) ∙ h)

pub to_and : (a b d : ℕ) → d ∈ a → d ∈ b → d ∈ a ∩ b
to_and a b d h k = has_and a b d ∙ and_from (has a d) (has b d) h k

pub in_or : (a b d : ℕ) → d ∈ a ∪ b → (d ∈ a) ⊎ (d ∈ b)
in_or a b d h = or_cases (has a d) (has b d) (sym (has_or a b d) ∙ h)

pub or_first : (a b : ℕ) → a ⊆ a ∪ b
or_first a b d h = has_or a b d ∙ or_left (has a d) (has b d) h

pub or_second : (a b : ℕ) → b ⊆ a ∪ b
or_second a b d h = has_or a b d ∙ or_right (has a d) (has b d) h

-- ---- subset

pub sub_refl : (s : ℕ) → s ⊆ s
sub_refl s d h = h

pub sub_trans : (r s t : ℕ) → r ⊆ s → s ⊆ t → r ⊆ t
sub_trans r s t h k d m = k d (h d m)

pub and_first : (a b : ℕ) → a ∩ b ⊆ a
and_first a b d h = (in_and a b d h).0

pub and_second : (a b : ℕ) → a ∩ b ⊆ b
and_second a b d h = (in_and a b d h).1

pub and_greatest : (r s t : ℕ) → r ⊆ s → r ⊆ t → r ⊆ s ∩ t
and_greatest r s t h k d m = to_and s t d (h d m) (k d m)

pub or_least : (s t u : ℕ) → s ⊆ u → t ⊆ u → s ∪ t ⊆ u
or_least s t u h k d m = ⊎_elim (h d) (k d) (in_or s t d m)

pub and_sub : (a b s : ℕ) → a ⊆ b → a ∩ s ⊆ b ∩ s
and_sub a b s h d m = let k = in_and a s d m in to_and b s d (h d k.0) k.1

-- subset as an equation, as the code tests it
pub sub_and : (s t : ℕ) → s ⊆ t → s ∩ t ≡ s
sub_and s t h = sub_antisym (s ∩ t) s (and_first s t) (λ d m. to_and s t d m (h d m))

pub and_sub_of : (s t : ℕ) → s ∩ t ≡ s → s ⊆ t
and_sub_of s t e d m = (in_and s t d (ap (λ (x : ℕ). has x d) e ∙ m)).1

pub decides_sub : (s t : ℕ) → Decides (eqb (s ∩ t) s) (s ⊆ t)
decides_sub s t = Decides-like (eqb (s ∩ t) s) (and_sub_of s t) (sub_and s t) (Decides-eqb (s ∩ t) s)

-- a smaller set is a smaller number
pub sub_le : (s t : ℕ) → s ⊆ t → s ≤ t
sub_le s t h = le_trans (le_of_eq (sym (sub_and s t h))) (and_le_r s t)

pub sub_lt : (n s t : ℕ) → s ⊆ t → t < 2 ^ n → s < 2 ^ n
sub_lt n s t h l = lt_of_le_of_lt (sub_le s t h) l

-- ---- one decision

half_pow : (k : ℕ) → 2 ^ suc k / 2 ≡ 2 ^ k
half_pow k = ap (λ (x : ℕ). x / 2) (pow-suc 2 k) ∙ mul-div_cancel (2 ^ k) (zero-lt-suc 1)

even_pow : (k : ℕ) → eqb (2 ^ suc k % 2) 1 ≡ false
even_pow k = ap (λ (x : ℕ). eqb (x % 2) 1) (pow-suc 2 k) ∙ ap (λ (x : ℕ). eqb x 1) (mul-mod_left (2 ^ k) 2)

pub has_single : (k d : ℕ) → has (single k) d ≡ eqb d k
has_single zero zero = has_zero 1
has_single zero (suc d) = has_suc 1 d ∙ has_none d ∙ sym (eqb-suc-zero d)
has_single (suc k) zero = has_zero (2 ^ suc k) ∙ even_pow k ∙ sym (eqb-zero-suc k)
has_single (suc k) (suc d) = has_suc (2 ^ suc k) d ∙ ap (λ (x : ℕ). has x d) (half_pow k) ∙ has_single k d ∙ sym (eqb-suc-suc d k)

-- ---- the laws by name

pub order : Order
order = record {
  reflexive = sub_refl;
  transitive = sub_trans;
  antisymmetric = sub_antisym;
  meet_first = and_first;
  meet_second = and_second;
  meet_greatest = and_greatest;
  join_first = or_first;
  join_second = or_second;
  join_least = or_least;
}

pub members : Members
members = record {
  of_meet = has_and;
  of_join = has_or;
  of_difference = has_minus;
  of_single = has_single;
  below_width = member_below;
}
