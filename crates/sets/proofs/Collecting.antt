-- Collecting the decisions that pass a test, comparing two sets decision by decision, and counting.
use Rattle.std.proofs.Common.{◌≡◌, ℕ, zero, suc, ◌+◌, ◌*◌, ◌/◌, ◌%◌, ◌^◌, ◌<◌, ◌≤◌, Bool, true, false, cond, eqb, ◌⊎◌, sym, refl, ap, ◌∙◌, inl, inr, ⊎_elim, zero-le, le_refl, le_of_suc-le-suc, not-suc-le-zero, eq-or-lt_of_le, pow-suc, arith}
use lib.Arith.{digits_div, digits_mod, digits_lt}
use lib.Bits.{bit_or}
use Rattle.std.proofs.lemmas.Bool.{cases_Bool, both_ways, eq-eqb, eqb-true, or_cases, or_left, or_right}
use Rattle.sets.specs.Sets.{has, ◌∈◌, ◌∉◌, ◌⊆◌, collect}
use Rattle.sets.proofs.Members.{has_zero, has_suc, has_or, has_single, sub_antisym, member_below}

-- ---- a member that the other set lacks, or none
pub outsider : (n s t : ℕ) → ((d : ℕ) → d < n → d ∈ s → d ∈ t) ⊎ ((d : ℕ) × (d < n) × (d ∈ s) × (d ∉ t))
outsider zero s t = inl (λ d l m. absurd (not-suc-le-zero l))
outsider (suc n) s t = ⊎_elim
    (λ (all : (d : ℕ) → d < n → d ∈ s → d ∈ t). ⊎_elim
    (λ (h : n ∈ s). ⊎_elim
    (λ (k : n ∈ t). inl (λ d l m. ⊎_elim (λ e. ap (has t) e ∙ k) (λ (b : d < n). all d b m) (last d l)))
    (λ (k : n ∉ t). inr (n, le_refl (suc n), h, k))
    (cases_Bool (has t n)))
    (λ (h : n ∉ s). inl (λ d l m. ⊎_elim (λ e. absurd (both_ways (has s d) (ap (has s) e ∙ h) m)) (λ (b : d < n). all d b m) (last d l)))
    (cases_Bool (has s n)))
    (λ (w : (d : ℕ) × (d < n) × (d ∈ s) × (d ∉ t)). inr (w.0, le_suc_of_le w.1, w.2, w.3))
    (outsider n s t)
  where
    last : (d : ℕ) → d < suc n → (d ≡ n) ⊎ (d < n)
    last d l = eq-or-lt_of_le (le_of_suc-le-suc l)

    le_suc_of_le : {a b : ℕ} → a ≤ b → a ≤ suc b
    le_suc_of_le h = omega arith

-- ---- collecting what passes a test

pub digit_below : (b : Bool) → cond b 1 0 < 2
digit_below true = omega arith
digit_below false = omega arith

pub low_digit : (q : ℕ) (b : Bool) → eqb ((q * 2 + cond b 1 0) % 2) 1 ≡ b
low_digit q b = ap (λ (x : ℕ). eqb x 1) (digits_mod q (digit_below b)) ∙ pick b
  where
    pick : (b : Bool) → eqb (cond b 1 0) 1 ≡ b
    pick true = refl
    pick false = refl

pub half_digit : (q : ℕ) (b : Bool) → (q * 2 + cond b 1 0) / 2 ≡ q
half_digit q b = digits_div q (digit_below b)

pub has_collect : (n : ℕ) (p : ℕ → Bool) (d : ℕ) → d < n → has (collect n p) d ≡ p d
unfolding collect
has_collect zero p d h = absurd (not-suc-le-zero h)
has_collect (suc n) p zero h = has_zero (collect (suc n) p) ∙ low_digit (collect n (λ d. p (suc d))) (p 0)
has_collect (suc n) p (suc d) h =
    has_suc (collect (suc n) p) d ∙ ap (λ (x : ℕ). has x d) (half_digit (collect n (λ d. p (suc d))) (p 0))
    ∙ has_collect n (λ d. p (suc d)) d (le_of_suc-le-suc h)

pub collect_lt : (n : ℕ) (p : ℕ → Bool) → collect n p < 2 ^ n
unfolding collect
collect_lt zero p = omega arith
collect_lt (suc n) p = rw pow-suc (digits_lt (collect_lt n (λ d. p (suc d))) (digit_below (p 0)))

pub in_collect : (n : ℕ) (p : ℕ → Bool) (d : ℕ) → d ∈ collect n p → (d < n) × (p d ≡ true)
in_collect n p d m =
    let l : d < n = member_below n (collect n p) d (collect_lt n p) m in
    (l, sym (has_collect n p d l) ∙ m)

pub to_collect : (n : ℕ) (p : ℕ → Bool) (d : ℕ) → d < n → p d ≡ true → d ∈ collect n p
to_collect n p d l h = has_collect n p d l ∙ h

-- ---- how many members stand below n

-- their number
unfoldable pub members : ℕ → ℕ → ℕ
members zero s = 0
members (suc n) s = members n s + cond (has s n) 1 0

pub members_le : (n s : ℕ) → members n s ≤ n
unfolding members
members_le zero s = zero-le
members_le (suc n) s = let h = members_le n s in let k = digit_below (has s n) in omega arith

digit_mono : (a b : Bool) → (a ≡ true → b ≡ true) → cond a 1 0 ≤ cond b 1 0
digit_mono true true h = omega arith
digit_mono true false h = absurd (both_ways false refl (h refl))
digit_mono false true h = omega arith
digit_mono false false h = omega arith

digit_less : (a b : Bool) → a ≡ false → b ≡ true → cond a 1 0 < cond b 1 0
digit_less true b h k = absurd (both_ways true h refl)
digit_less false true h k = omega arith
digit_less false false h k = absurd (both_ways false refl k)

pub members_mono : (n s t : ℕ) → s ⊆ t → members n s ≤ members n t
unfolding members
members_mono zero s t h = zero-le
members_mono (suc n) s t h = let i = members_mono n s t h in let j = digit_mono (has s n) (has t n) (h n) in omega arith

pub members_less : (n s t d : ℕ) → s ⊆ t → d < n → d ∉ s → d ∈ t → members n s < members n t
unfolding members
members_less zero s t d h l out in' = absurd (not-suc-le-zero l)
members_less (suc n) s t d h l out in' = ⊎_elim
    (λ e. let i = members_mono n s t h in
    let j = digit_less (has s n) (has t n) (ap (has s) (sym e) ∙ out) (ap (has t) (sym e) ∙ in') in omega arith)
    (λ (b : d < n). let i = members_less n s t d h b out in' in let j = digit_mono (has s n) (has t n) (h n) in omega arith)
    (eq-or-lt_of_le (le_of_suc-le-suc l))

-- one decision more
pub collect_out : (n : ℕ) (p : ℕ → Bool) → p n ≡ false → collect n p ≡ collect (suc n) p
collect_out n p h = sub_antisym (collect n p) (collect (suc n) p)
    (λ d m. let k = in_collect n p d m in to_collect (suc n) p d (omega arith) k.1)
    (λ d m. let k = in_collect (suc n) p d m in
    ⊎_elim (λ e. absurd (both_ways (p n) h (ap p (sym e) ∙ k.1))) (λ (l : d < n). to_collect n p d l k.1) (eq-or-lt_of_le (le_of_suc-le-suc k.0)))

pub collect_in : (n : ℕ) (p : ℕ → Bool) → p n ≡ true → bit_or (collect n p) (2 ^ n) ≡ collect (suc n) p
collect_in n p h = sub_antisym (bit_or (collect n p) (2 ^ n)) (collect (suc n) p)
    (λ d m. ⊎_elim
    (λ (i : d ∈ collect n p). let k = in_collect n p d i in to_collect (suc n) p d (omega arith) k.1)
    (λ (i : d ∈ 2 ^ n). let e = eqb-true d n (sym (has_single n d) ∙ i) in to_collect (suc n) p d (omega arith) (ap p e ∙ h))
    (or_cases (has (collect n p) d) (has (2 ^ n) d) (sym (has_or (collect n p) (2 ^ n) d) ∙ m)))
    (λ d m. let k = in_collect (suc n) p d m in
    has_or (collect n p) (2 ^ n) d ∙ ⊎_elim
    (λ e. or_right (has (collect n p) d) (has (2 ^ n) d) (has_single n d ∙ eq-eqb d n e))
    (λ (l : d < n). or_left (has (collect n p) d) (has (2 ^ n) d) (to_collect n p d l k.1))
    (eq-or-lt_of_le (le_of_suc-le-suc k.0)))
