-- Where a set has decisions outside an upper one: the last set inside that is below it.
use Rattle.std.proofs.Common.{◌≡◌, ℕ, suc, ◌+◌, ◌-◌, ◌*◌, ◌/◌, ◌%◌, ◌^◌, ◌<◌, ◌≤◌, not, eqb, ◌↔◌, List, ◌∷◌, sym, ap, ◌∙◌, subst, ⊎_elim, le_trans, mul-le-mul_right, mod-lt, zero-lt-suc, div-lt_iff_lt-mul, pow-suc, div-add-mod', le-div_iff_mul-le, div-mul-le_self, arith, pow_pos, shr-shr}
use native.Mathlib.Nat.{div-eq_of_lt}
use lib.Bits.{bit_and, bit_or, and_mask, and_shr, or_shr, or_zero_r}
use lib.Count.{count_leading_zeros, leading_top}
use lib.Pow.{ones_lt, ones_split}
use Rattle.std.proofs.lemmas.Nat.{shr_high}
use Rattle.std.proofs.lemmas.Bool.{cases_Bool, cases_lt, both_ways, and_parts, and_from, not-true, not_from_false, eqb-true, eq-eqb}
use Rattle.sets.specs.Sets.{has, ◌∈◌, ◌∉◌, ◌⊆◌, ◌∩◌, ◌∪◌, ◌∖◌, Highest}
use Rattle.sets.specs.Walks.{sets_from}
use Rattle.sets.proofs.Members.{has_minus, has_none, in_and, to_and, and_second, member_below, or_second, sub_and, sub_le}
use Rattle.sets.proofs.Listing.{from_after}

-- ---- the highest decision, as the machine counts the zeros above it

one_there : (s d : ℕ) → 1 ≤ s / 2 ^ d → s / 2 ^ d < 2 → d ∈ s
unfolding has
one_there s d a b = let o : s / 2 ^ d ≡ 1 = omega arith in ap (λ (x : ℕ). eqb (x % 2) 1) o

pub highest_leading : (s z : ℕ) → 0 < s → s < 2 ^ 64 → z ≡ count_leading_zeros 64 s → (d : ℕ) × Highest d s × (18446744073709551615 / 2 ^ z ≡ 2 ^ (d + 1) - 1)
highest_leading s z p h e =
    let t = leading_top 64 s p h in let d = t.0 in let n = t.1 in
    let m : 2 ^ d * 2 ≡ 2 ^ suc d = sym (pow-suc 2 d) in
    let k : d + 1 + z ≡ 64 = omega arith in (
      d,
      (
        one_there s d ((le-div_iff_mul-le (pow_pos d)).1 (omega (arith, t.2))) ((div-lt_iff_lt-mul (pow_pos d)).1 (omega (arith, t.3))),
        λ x i. let l = member_below (suc d) s x t.3 i in omega arith,
      ),
      ap (λ (x : ℕ). (2 ^ x - 1) / 2 ^ z) (sym k) ∙ ap (λ (x : ℕ). x / 2 ^ z) (ones_split (d + 1) z) ∙ shr_high (2 ^ (d + 1) - 1) z (2 ^ z - 1) (ones_lt z),
    )

-- ---- digits from a place on

has_shr : (s k d : ℕ) → has (s / 2 ^ k) d ≡ has s (k + d)
unfolding has
has_shr s k d = ap (λ (x : ℕ). eqb (x % 2) 1) (shr-shr s k d)

in_minus : (s t d : ℕ) → d ∈ s ∖ t → (d ∈ s) × (d ∉ t)
in_minus s t d h = let k = and_parts (has s d) (not (has t d)) (sym (has_minus s t d) ∙ h) in (k.0, not-true (has t d) k.1)

to_minus : (s t d : ℕ) → d ∈ s → d ∉ t → d ∈ s ∖ t
to_minus s t d h k = has_minus s t d ∙ and_from (has s d) (not (has t d)) h (not_from_false (has t d) k)

-- nothing outside is a subset
pub minus_none : (s t : ℕ) → s ∖ t ≡ 0 → s ⊆ t
minus_none s t e d h = ⊎_elim (λ i. i)
    (λ o. absurd (both_ways (has 0 d) (has_none d) (subst (λ (x : ℕ). d ∈ x) e (to_minus s t d h o))))
    (cases_Bool (has t d))

-- the empty set is inside every set
pub none_inside : (s : ℕ) → 0 ⊆ s
none_inside s d h = absurd (both_ways (has 0 d) (has_none d) h)

-- what is larger before a place is larger
high_le : (k a b : ℕ) → a ≤ b → a / 2 ^ k ≤ b / 2 ^ k
high_le k a b h = (le-div_iff_mul-le (pow_pos k)).1 (le_trans (div-mul-le_self a (2 ^ k)) h)

high_less : (k a b : ℕ) → a / 2 ^ k < b / 2 ^ k → a < b
high_less k a b h = ⊎_elim (λ l. l) (λ (l : b ≤ a). let q = high_le k b a l in absurd (omega arith)) (cases_lt a b)

less_high : (p a b : ℕ) → b % p ≤ a % p → a < b → a / p < b / p
less_high p a b h l = ⊎_elim (λ k. k)
    (λ (k : b / p ≤ a / p).
    let m : b / p * p ≤ a / p * p = mul-le-mul_right p k in
    let ea = div-add-mod' a p in let eb = div-add-mod' b p in absurd (omega arith))
    (cases_lt (a / p) (b / p))

-- ---- the last set below

module _ (start up d : ℕ) (top : Highest d (start ∖ up)) where
  abbrev low : ℕ
  low = 2 ^ (d + 1) - 1

  abbrev last_below : ℕ
  last_below = (start ∪ low) ∩ up

  above_inside : start / 2 ^ (d + 1) ⊆ up / 2 ^ (d + 1)
  above_inside e h = has_shr up (d + 1) e ∙ ⊎_elim (λ i. i)
      (λ o. let k = top.1 (d + 1 + e) (to_minus start up (d + 1 + e) (sym (has_shr start (d + 1) e) ∙ h) o) in absurd (omega arith))
      (cases_Bool (has up (d + 1 + e)))

  low_none : low / 2 ^ (d + 1) ≡ 0
  low_none = let p = pow_pos (d + 1) in div-eq_of_lt (omega arith)

  same_above : last_below / 2 ^ (d + 1) ≡ start / 2 ^ (d + 1)
  same_above =
      and_shr (start ∪ low) up (d + 1)
      ∙ ap (λ (x : ℕ). bit_and x (up / 2 ^ (d + 1))) (or_shr start low (d + 1) ∙ ap (bit_or (start / 2 ^ (d + 1))) low_none ∙ or_zero_r (start / 2 ^ (d + 1)))
      ∙ sub_and (start / 2 ^ (d + 1)) (up / 2 ^ (d + 1)) above_inside

  rest_least : (f : ℕ) → f ⊆ up → f % 2 ^ (d + 1) ≤ last_below % 2 ^ (d + 1)
  rest_least f h =
      let le : f ∩ low ≤ last_below ∩ low = sub_le (f ∩ low) (last_below ∩ low) (λ e m.
      let k = in_and f low e m in to_and last_below low e (to_and (start ∪ low) up e (or_second start low e k.1) (h e k.0)) k.1) in
      omega (arith, and_mask f (d + 1), and_mask last_below (d + 1))

  -- start has decision d, and no set inside the upper one has
  odd_start : start / 2 ^ d % 2 ≡ 1
  unfolding has
  odd_start = eqb-true (start / 2 ^ d % 2) 1 (in_minus start up d top.0).0

  even_inside : (f : ℕ) → f ⊆ up → f / 2 ^ d % 2 ≡ 0
  unfolding has
  even_inside f h =
      let ne : f / 2 ^ d % 2 ≡ 1 → ⊥ = λ e. both_ways (has up d) (in_minus start up d top.0).1 (h d (eq-eqb (f / 2 ^ d % 2) 1 e)) in
      let l : f / 2 ^ d % 2 < 2 = mod-lt (f / 2 ^ d) (zero-lt-suc 1) in omega arith

  pub above_last : (f : ℕ) → f ⊆ up → (last_below < f) ↔ (start ≤ f)
  above_last f h =
      let e = same_above in
      let a : start / 2 ^ d / 2 ≡ start / 2 ^ (d + 1) = shr-shr start d 1 in
      let b : f / 2 ^ d / 2 ≡ f / 2 ^ (d + 1) = shr-shr f d 1 in
      let o = odd_start in let z = even_inside f h in (
        (λ l. let q = less_high (2 ^ (d + 1)) last_below f (rest_least f h) l in
            let k : start / 2 ^ (d + 1) < f / 2 ^ (d + 1) = omega arith in
            let r = high_less (d + 1) start f k in omega arith),
        (λ l. let q : start / 2 ^ d ≤ f / 2 ^ d = high_le d start f l in
            high_less (d + 1) last_below f (omega arith)),
      )

-- the sets from `start` on come after it
pub after_last : (start up d at : ℕ) (rest : List ℕ) → up < 2 ^ 64 → Highest d (start ∖ up) → at ≡ (start ∪ (2 ^ (d + 1) - 1)) ∩ up
    → sets_from at 0 up ≡ at ∷ rest → sets_from start 0 up ≡ rest
after_last start up d at rest fits top is =
    from_after 0 up at (none_inside up) fits (none_inside at, subst (λ (x : ℕ). x ⊆ up) (sym is) (and_second (start ∪ (2 ^ (d + 1) - 1)) up)) start rest
    (λ f b. subst (λ (x : ℕ). (x < f) ↔ (start ≤ f)) (sym is) (above_last start up d top f b.1))
