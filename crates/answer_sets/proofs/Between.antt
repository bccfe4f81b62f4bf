-- A test that goes through all sets between two sets.
use Rattle.std.proofs.Common.{◌≡◌, ℕ, zero, suc, ◌+◌, ◌*◌, ◌/◌, ◌%◌, ◌^◌, ◌<◌, Bool, true, false, cond, sym, refl, ap, ◌∙◌, subst, ⊎_elim, mod-lt, zero-lt-suc, div-add-mod', arith}
use lib.Arith.{lt-one}
use Rattle.std.proofs.lemmas.Bool.{cases_Bool, both_ways, and_parts, and_from, eqb-true, eqb-false}
use Rattle.sets.specs.Sets.{has, ◌∈◌, ◌⊆◌}
use Rattle.answer_sets.specs.Tests.{odd, pick, all_between}
use Rattle.sets.proofs.Members.{has_zero, has_suc, has_none}
use Rattle.sets.proofs.Collecting.{low_digit, half_digit}
use Rattle.sets.proofs.Successor.{half_lt, half_sub}

pick_sound : (h l w wo b : Bool) → pick h l w wo ≡ true → (b ≡ true → h ≡ true) → (l ≡ true → b ≡ true) → cond b w wo ≡ true
pick_sound false l w wo true e up down = absurd (both_ways false refl (up refl))
pick_sound false l w wo false e up down = e
pick_sound true true w wo true e up down = e
pick_sound true true w wo false e up down = absurd (both_ways false refl (down refl))
pick_sound true false w wo true e up down = (and_parts w wo e).0
pick_sound true false w wo false e up down = (and_parts w wo e).1

pick_complete : (h l w wo : Bool) → (h ≡ true → w ≡ true) → (l ≡ false → wo ≡ true) → (l ≡ true → h ≡ true) → pick h l w wo ≡ true
pick_complete false true w wo a b c = absurd (both_ways false refl (c refl))
pick_complete false false w wo a b c = b refl
pick_complete true true w wo a b c = a refl
pick_complete true false w wo a b c = and_from w wo (a refl) (b refl)

digit_of : (s : ℕ) → s % 2 ≡ cond (odd s) 1 0
digit_of s = ⊎_elim
    (λ (o : odd s ≡ true). rw o (eqb-true (s % 2) 1 o))
    (λ (o : odd s ≡ false). rw o
    (let ns : s % 2 ≡ 1 → ⊥ = eqb-false (s % 2) 1 o in
    let ls : s % 2 < 2 = mod-lt s (zero-lt-suc 1) in
    omega arith))
    (cases_Bool (odd s))

split_digit : (s : ℕ) → s ≡ s / 2 * 2 + cond (odd s) 1 0
split_digit s = sym (div-add-mod' s 2) ∙ ap (λ (x : ℕ). s / 2 * 2 + x) (digit_of s)

odd_sub : (s t : ℕ) → s ⊆ t → odd s ≡ true → odd t ≡ true
odd_sub s t h o = sym (has_zero t) ∙ h 0 (has_zero s ∙ o)

pub between_sound : (n lo hi : ℕ) (p : ℕ → Bool) → all_between n lo hi p ≡ true → (F : ℕ) → F < 2 ^ n → lo ⊆ F → F ⊆ hi → p F ≡ true
unfolding all_between
between_sound zero lo hi p e F l a b = ap p (lt-one l) ∙ e
between_sound (suc n) lo hi p e F l a b =
    ap p (split_digit F) ∙ go (odd F)
    (pick_sound (odd hi) (odd lo) (all_between n (lo / 2) (hi / 2) (λ x. p (x * 2 + 1))) (all_between n (lo / 2) (hi / 2) (λ x. p (x * 2 + 0))) (odd F) e (odd_sub F hi b) (odd_sub lo F a))
    (λ q h. between_sound n (lo / 2) (hi / 2) q h (F / 2) (half_lt n F l) (half_sub lo F a) (half_sub F hi b))
  where
    go : (b : Bool) → cond b (all_between n (lo / 2) (hi / 2) (λ x. p (x * 2 + 1))) (all_between n (lo / 2) (hi / 2) (λ x. p (x * 2 + 0))) ≡ true
        → ((q : ℕ → Bool) → all_between n (lo / 2) (hi / 2) q ≡ true → q (F / 2) ≡ true)
        → p (F / 2 * 2 + cond b 1 0) ≡ true
    go true h ih = ih (λ x. p (x * 2 + 1)) h
    go false h ih = ih (λ x. p (x * 2 + 0)) h

-- a digit before a set
lift_sub : (s t : ℕ) (b : Bool) → s / 2 ⊆ t → (odd s ≡ true → b ≡ true) → s ⊆ t * 2 + cond b 1 0
lift_sub s t b h k zero m = has_zero (t * 2 + cond b 1 0) ∙ low_digit t b ∙ k (sym (has_zero s) ∙ m)
lift_sub s t b h k (suc d) m =
    has_suc (t * 2 + cond b 1 0) d ∙ ap (λ (x : ℕ). has x d) (half_digit t b) ∙ h d (sym (has_suc s d) ∙ m)

drop_sub : (s t : ℕ) (b : Bool) → t ⊆ s / 2 → (b ≡ true → odd s ≡ true) → t * 2 + cond b 1 0 ⊆ s
drop_sub s t b h k zero m = has_zero s ∙ k (sym (low_digit t b) ∙ sym (has_zero (t * 2 + cond b 1 0)) ∙ m)
drop_sub s t b h k (suc d) m =
    has_suc s d ∙ h d (ap (λ (x : ℕ). has x d) (sym (half_digit t b)) ∙ sym (has_suc (t * 2 + cond b 1 0) d) ∙ m)

pub between_complete : (n lo hi : ℕ) (p : ℕ → Bool) → lo ⊆ hi → hi < 2 ^ n → ((F : ℕ) → lo ⊆ F → F ⊆ hi → p F ≡ true) → all_between n lo hi p ≡ true
unfolding all_between
between_complete zero lo hi p s l h =
    h 0 (λ d m. subst (λ (x : ℕ). d ∈ x) (lt-one l) (s d m)) (λ d m. absurd (both_ways (has 0 d) (has_none d) m))
between_complete (suc n) lo hi p s l h =
    pick_complete (odd hi) (odd lo) _ _
    (λ o. between_complete n (lo / 2) (hi / 2) (λ x. p (x * 2 + 1)) (half_sub lo hi s) (half_lt n hi l)
    (λ F a b. h (F * 2 + 1) (lift_sub lo F true a (λ _. refl)) (drop_sub hi F true b (λ _. o))))
    (λ o. between_complete n (lo / 2) (hi / 2) (λ x. p (x * 2 + 0)) (half_sub lo hi s) (half_lt n hi l)
    (λ F a b. h (F * 2 + 0) (lift_sub lo F false a (λ k. sym o ∙ k)) (drop_sub hi F false b (λ k. absurd (both_ways false refl k)))))
    (odd_sub lo hi s)
