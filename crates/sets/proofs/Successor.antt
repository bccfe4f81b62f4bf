-- The set that follows s among the sets between two sets: the lowest of them above s.
use Rattle.std.proofs.Common.{◌≡◌, ℕ, zero, suc, ◌+◌, ◌-◌, ◌*◌, ◌/◌, ◌%◌, ◌^◌, ◌<◌, ◌≤◌, min, max, Bool, true, false, not, ◌&&◌, eqb, ◌⊎◌, sym, refl, ap, ◌∙◌, subst, ap₂, inl, inr, ⊎_elim, le_of_suc-le-suc, not-suc-le-zero, mod-lt, zero-lt-suc, div-lt_iff_lt-mul, pow-suc, arith}
use lib.Arith.{digits_mod, digits_div}
use lib.Bits.{bit_and, bit_or, bit_xor, and_step, or_step, xor_add_and, and_comm}
use Rattle.std.proofs.lemmas.Bool.{eq-eqb, ne_eqb, eqb-true, cases_eq, cases_lt}
use Rattle.sets.specs.Sets.{has, ◌∉◌, ◌⊆◌, ◌∖◌}
use Rattle.sets.specs.Walks.{Next}
use Rattle.sets.proofs.Members.{has_zero, has_suc, has_high, has_and, has_minus, ext, sub_and, sub_antisym, sub_le, or_first, or_least, sub_refl}

-- ---- the complement in n digits

pub half_lt : (n s : ℕ) → s < 2 ^ suc n → s / 2 < 2 ^ n
half_lt n s h = (div-lt_iff_lt-mul (zero-lt-suc 1)).1 (rw pow-suc at h)

flip_low : (x b : ℕ) → b < x * 2 → eqb ((x * 2 - 1 - b) % 2) 1 ≡ not (eqb (b % 2) 1)
flip_low x b h = ⊎_elim
    (λ (o : b % 2 ≡ 1). let z : (x * 2 - 1 - b) % 2 ≡ 0 = omega arith in ap (λ (y : ℕ). eqb y 1) z ∙ sym (ap not (eq-eqb (b % 2) 1 o)))
    (λ ne. let m : b % 2 < 2 = mod-lt b (zero-lt-suc 1) in
    let z : (x * 2 - 1 - b) % 2 ≡ 1 = omega arith in ap (λ (y : ℕ). eqb y 1) z ∙ sym (ap not (ne_eqb (b % 2) 1 ne)))
    (cases_eq (b % 2) 1)

flip_half : (x b : ℕ) → b < x * 2 → (x * 2 - 1 - b) / 2 ≡ x - 1 - b / 2
flip_half x b h = omega arith

pub has_flip : (n b d : ℕ) → b < 2 ^ n → d < n → has (2 ^ n - 1 - b) d ≡ not (has b d)
has_flip zero b d h l = absurd (not-suc-le-zero l)
has_flip (suc n) b zero h l =
    has_zero (2 ^ suc n - 1 - b) ∙ ap (λ (x : ℕ). eqb ((x - 1 - b) % 2) 1) (pow-suc 2 n)
    ∙ flip_low (2 ^ n) b (rw pow-suc at h) ∙ sym (ap not (has_zero b))
has_flip (suc n) b (suc d) h l =
    has_suc (2 ^ suc n - 1 - b) d
    ∙ ap (λ (x : ℕ). has x d) (ap (λ (x : ℕ). (x - 1 - b) / 2) (pow-suc 2 n) ∙ flip_half (2 ^ n) b (rw pow-suc at h))
    ∙ has_flip n (b / 2) d (half_lt n b h) (le_of_suc-le-suc l) ∙ sym (ap not (has_suc b d))

-- `a & !b`, in n digits
pub minus_flip : (n a b : ℕ) → a < 2 ^ n → b < 2 ^ n → bit_and a (2 ^ n - 1 - b) ≡ a ∖ b
minus_flip n a b h k = ext (bit_and a (2 ^ n - 1 - b)) (a ∖ b) (λ d. has_and a (2 ^ n - 1 - b) d ∙ ⊎_elim
    (λ (l : d < n). ap (λ (x : Bool). has a d && x) (has_flip n b d k l) ∙ sym (has_minus a b d))
    (λ l. let out : d ∉ a = has_high n a d h l in
    ap (λ (x : Bool). x && has (2 ^ n - 1 - b) d) out ∙ sym (has_minus a b d ∙ ap (λ (x : Bool). x && not (has b d)) out))
    (cases_lt d n))

-- what the larger set has besides, as a number
pub minus_sub : (s t : ℕ) → s ⊆ t → t - s ≡ t ∖ s
minus_sub s t h =
    let e : bit_and t s ≡ s = and_comm t s ∙ sub_and s t h in
    let x : bit_xor t s + bit_and t s * 2 ≡ t + s = xor_add_and t s in
    let y : t ∖ s ≡ bit_xor t s = ap (bit_xor t) e in
    omega arith

-- the part of t that is not in t ∖ s is s
rest : (n s t : ℕ) → s ⊆ t → t < 2 ^ n → bit_and (2 ^ n - 1 - (t - s)) t ≡ s
rest n s t h l =
    and_comm (2 ^ n - 1 - (t - s)) t ∙ minus_flip n t (t - s) l (omega arith) ∙ ap (λ (x : ℕ). t ∖ x) (minus_sub s t h)
    ∙ ext (t ∖ (t ∖ s)) s (λ d. has_minus t (t ∖ s) d ∙ ap (λ (x : Bool). has t d && not x) (has_minus t s d) ∙ twice (has t d) (has s d) (h d))
  where
    twice : (a b : Bool) → (b ≡ true → a ≡ true) → (a && not (a && not b)) ≡ b
    twice true true f = refl
    twice true false f = refl
    twice false true f = f refl
    twice false false f = refl

-- ---- the successor, digit by digit

-- with n digits, the code's term for it
abbrev pub after : ℕ → ℕ → ℕ → ℕ → ℕ
after n lower upper s = bit_or (bit_and (2 ^ n - (upper - s)) upper) lower

and_half : (a b : ℕ) → bit_and a b / 2 ≡ bit_and (a / 2) (b / 2)
and_half a b = let h : min (a % 2) (b % 2) < 2 = omega arith in ap (λ (x : ℕ). x / 2) (and_step a b) ∙ digits_div (bit_and (a / 2) (b / 2)) h

and_low : (a b : ℕ) → bit_and a b % 2 ≡ min (a % 2) (b % 2)
and_low a b = let h : min (a % 2) (b % 2) < 2 = omega arith in ap (λ (x : ℕ). x % 2) (and_step a b) ∙ digits_mod (bit_and (a / 2) (b / 2)) h

-- the two digits of `after`, from those of 2 ^ n - (upper - s)
after_step : (x up lo : ℕ) → bit_or (bit_and x up) lo ≡ bit_or (bit_and (x / 2) (up / 2)) (lo / 2) * 2 + max (min (x % 2) (up % 2)) (lo % 2)
after_step x up lo =
    or_step (bit_and x up) lo ∙ ap₂ (λ (p q : ℕ). bit_or p (lo / 2) * 2 + max q (lo % 2)) (and_half x up) (and_low x up)

pub half_sub : (s t : ℕ) → s ⊆ t → s / 2 ⊆ t / 2
half_sub s t h d m = sym (has_suc t d) ∙ h (suc d) (has_suc s d ∙ m)

low_sub : (s t : ℕ) → s ⊆ t → s % 2 ≤ t % 2
low_sub s t h = ⊎_elim
    (λ (o : s % 2 ≡ 1).
    let u : t % 2 ≡ 1 = eqb-true (t % 2) 1 (sym (has_zero t) ∙ h 0 (has_zero s ∙ eq-eqb (s % 2) 1 o)) in omega arith)
    (λ ne. let l : s % 2 < 2 = mod-lt s (zero-lt-suc 1) in omega arith)
    (cases_eq (s % 2) 1)

or_sub : (s t : ℕ) → s ⊆ t → bit_or t s ≡ t
or_sub s t h = sub_antisym (bit_or t s) t (or_least t s t (sub_refl t) h) (or_first t s)

-- a decision at the lowest place that s may take up: the successor is one more
next_low : (n lo up s : ℕ) → lo ⊆ s → s ⊆ up → up < 2 ^ suc n → s % 2 ≡ 0 → up % 2 ≡ 1 → after (suc n) lo up s ≡ suc s
next_low n lo up s p q l e u =
    let k : up < 2 ^ n * 2 = rw pow-suc at l in
    let hs : s / 2 ≤ up / 2 = sub_le (s / 2) (up / 2) (half_sub s up q) in
    let z : lo % 2 ≡ 0 = let j = low_sub lo s p in omega arith in
    let x2 : (2 ^ n * 2 - (up - s)) / 2 ≡ 2 ^ n - 1 - (up / 2 - s / 2) = omega arith in
    let xm : (2 ^ n * 2 - (up - s)) % 2 ≡ 1 = omega arith in
    let hi : bit_or (bit_and ((2 ^ n * 2 - (up - s)) / 2) (up / 2)) (lo / 2) ≡ s / 2 =
    ap (λ (x : ℕ). bit_or (bit_and x (up / 2)) (lo / 2)) x2
    ∙ ap (λ (x : ℕ). bit_or x (lo / 2)) (rest n (s / 2) (up / 2) (half_sub s up q) (half_lt n up l))
    ∙ or_sub (lo / 2) (s / 2) (half_sub lo s p) in
    let st = after_step (2 ^ n * 2 - (up - s)) up lo in
    ap (λ (x : ℕ). bit_or (bit_and (x - (up - s)) up) lo) (pow-suc 2 n) ∙ (omega arith)

pub next_after : (n lo up s : ℕ) → lo ⊆ s → s ⊆ up → up < 2 ^ n → s < up → Next lo up s (after n lo up s)
next_after zero lo up s p q l h = absurd (omega arith)
next_after (suc n) lo up s p q l h = ⊎_elim
    (λ (c : (s % 2 ≡ 0) × (up % 2 ≡ 1)).
    subst (Next lo up s) (sym (next_low n lo up s p q l c.0 c.1)) (omega arith, λ f b g. g))
    (λ (c : s % 2 ≡ up % 2).
    let k : up < 2 ^ n * 2 = rw pow-suc at l in
    let hs : s / 2 ≤ up / 2 = sub_le (s / 2) (up / 2) (half_sub s up q) in
    let ih : Next (lo / 2) (up / 2) (s / 2) (after n (lo / 2) (up / 2) (s / 2)) =
    next_after n (lo / 2) (up / 2) (s / 2) (half_sub lo s p) (half_sub s up q) (half_lt n up l) (omega arith) in
    let x2 : (2 ^ n * 2 - (up - s)) / 2 ≡ 2 ^ n - (up / 2 - s / 2) = omega arith in
    let xm : (2 ^ n * 2 - (up - s)) % 2 ≡ 0 = omega arith in
    let hi : bit_or (bit_and ((2 ^ n * 2 - (up - s)) / 2) (up / 2)) (lo / 2) ≡ after n (lo / 2) (up / 2) (s / 2) =
    ap (λ (x : ℕ). bit_or (bit_and x (up / 2)) (lo / 2)) x2 in
    let st = after_step (2 ^ n * 2 - (up - s)) up lo in
    let ml : lo % 2 < 2 = mod-lt lo (zero-lt-suc 1) in
    let is : bit_or (bit_and (2 ^ n * 2 - (up - s)) up) lo ≡ after n (lo / 2) (up / 2) (s / 2) * 2 + lo % 2 = omega arith in
    subst (Next lo up s) (sym (ap (λ (x : ℕ). bit_or (bit_and (x - (up - s)) up) lo) (pow-suc 2 n) ∙ is)) (
      omega (arith, ih.0),
      (λ f b g.
          let lf : lo % 2 ≤ f % 2 = low_sub lo f b.0 in
          let fu : f % 2 ≤ up % 2 = low_sub f up b.1 in
          let le : after n (lo / 2) (up / 2) (s / 2) ≤ f / 2 = ih.1 (f / 2) (half_sub lo f b.0, half_sub f up b.1) (omega arith) in
          omega arith),
    ))
    (digits (low_sub s up q))
  where
    digits : s % 2 ≤ up % 2 → ((s % 2 ≡ 0) × (up % 2 ≡ 1)) ⊎ (s % 2 ≡ up % 2)
    digits j = let a : up % 2 < 2 = mod-lt up (zero-lt-suc 1) in
        ⊎_elim (λ e. inr e) (λ ne. inl (omega arith, omega arith)) (cases_eq (s % 2) (up % 2))
