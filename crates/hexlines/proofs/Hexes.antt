-- Laws of the digits.
use Rattle.std.proofs.Common.{◌≡◌, ℕ, ◌+◌, ◌*◌, ◌/◌, ◌%◌, ◌≤◌, Bool, true, false, cond, ltb, List, [], ◌∷◌, ◌++◌, length, get_or, drop, sym, refl, ap, ◌∙◌, add-zero, arith}
use Rattle.std.proofs.lemmas.List.{get_or-drop, drop_more, drop-drop}
use Rattle.std.proofs.lemmas.Bool.{ltb-true, ltb-false}
use Rattle.hexlines.specs.Hex.{digit, hex, Bytes}

pub hex_nil : hex [] ≡ []
unfolding hex
hex_nil = refl

pub hex_cons : (b : ℕ) (bs : List ℕ) → hex (b ∷ bs) ≡ digit (b / 16) ∷ digit (b % 16) ∷ hex bs
unfolding hex
hex_cons b bs = refl

pub hex_append : (xs ys : List ℕ) → hex (xs ++ ys) ≡ hex xs ++ hex ys
unfolding hex
hex_append [] ys = refl
hex_append (x ∷ xs) ys = ap (λ l. digit (x / 16) ∷ digit (x % 16) ∷ l) (hex_append xs ys)

pub length_hex : (bs : List ℕ) → length (hex bs) ≡ 2 * length bs
unfolding hex
length_hex [] = refl
length_hex (x ∷ bs) = let h = length_hex bs in omega arith

pub bytes_append : (xs ys : List ℕ) → Bytes xs → Bytes ys → Bytes (xs ++ ys)
bytes_append [] ys h k = k
bytes_append (x ∷ xs) ys h k = (h.0, bytes_append xs ys h.1 k)

digit_by : (t : Bool) (n : ℕ) → cond t (48 + n) (87 + n) ≡ 10 → ⊥
digit_by true n e = omega arith
digit_by false n e = omega arith

-- no digit is a line feed
pub digit_not_feed : (n : ℕ) → digit n ≡ 10 → ⊥
digit_not_feed n e = digit_by (ltb n 10) n e

digit_same_by : (s t : Bool) (a b : ℕ) → ltb a 10 ≡ s → ltb b 10 ≡ t → cond s (48 + a) (87 + a) ≡ cond t (48 + b) (87 + b) → a ≡ b
digit_same_by true true a b p q e = omega arith
digit_same_by true false a b p q e = omega (arith, ltb-true, ltb-false)
digit_same_by false true a b p q e = omega (arith, ltb-true, ltb-false)
digit_same_by false false a b p q e = omega arith

digit_same : (a b : ℕ) → digit a ≡ digit b → a ≡ b
digit_same a b e = digit_same_by (ltb a 10) (ltb b 10) a b refl refl e

-- a byte is known by its digits
pub byte_same : (a b : ℕ) → digit (a / 16) ≡ digit (b / 16) → digit (a % 16) ≡ digit (b % 16) → a ≡ b
byte_same a b p q = let h = digit_same (a / 16) (b / 16) p in let l = digit_same (a % 16) (b % 16) q in omega arith

-- the two characters at a place
pub first_at : (s : List ℕ) (at x y : ℕ) (q : List ℕ) → drop at s ≡ x ∷ y ∷ q → get_or s at 0 ≡ x
first_at s at x y q e = ap (λ i. get_or s i 0) (sym (add-zero at)) ∙ sym (get_or-drop at s 0 0) ∙ ap (λ l. get_or l 0 0) e

pub second_at : (s : List ℕ) (at x y : ℕ) (q : List ℕ) → drop at s ≡ x ∷ y ∷ q → get_or s (at + 1) 0 ≡ y
second_at s at x y q e = sym (get_or-drop at s 1 0) ∙ ap (λ l. get_or l 1 0) e

pub both_at : (s : List ℕ) (at x y : ℕ) → at + 2 ≤ length s → get_or s at 0 ≡ x → get_or s (at + 1) 0 ≡ y → drop at s ≡ x ∷ y ∷ drop 2 (drop at s)
both_at s at x y h p q =
    let two : at + 1 + 1 ≡ at + 2 = omega arith in
    let second : drop (at + 1) s ≡ y ∷ drop 2 (drop at s) =
    drop_more s (at + 1) 0 (omega arith) ∙ ap (λ z. z ∷ drop (at + 1 + 1) s) q ∙ ap (λ i. y ∷ drop i s) two ∙ ap (λ l. y ∷ l) (sym (drop-drop 2 at s)) in
    drop_more s at 0 (omega arith) ∙ ap (λ z. z ∷ drop (at + 1) s) p ∙ ap (λ l. x ∷ l) second
