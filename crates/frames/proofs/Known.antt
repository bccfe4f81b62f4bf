-- Frames are known by their bytes.
use Rattle.std.proofs.Common.{◌≡◌, ℕ, ◌/◌, ◌%◌, List, ◌++◌, get_or, drop, sym, refl, ap, ◌∙◌, arith}
use Rattle.answer_sets.specs.Rules.{Way, reduct, complement}
use Rattle.frames.specs.Bytes.{in_eight}
use Rattle.rules.specs.Bytes.{way_byte}
use Rattle.frames.specs.Frames.{Frame, a_header, a_rule, a_page, a_trailer, spelled}

pub two_same : (m n : ℕ) → m / 256 ≡ n / 256 → m % 256 ≡ n % 256 → m ≡ n
two_same m n p q = omega arith

pub way_same : (v w : Way) → way_byte v ≡ way_byte w → v ≡ w
way_same reduct reduct e = refl
way_same reduct complement e = absurd (omega arith)
way_same complement reduct e = absurd (omega arith)
way_same complement complement e = refl

pub eight_same : (m n : ℕ) (xs ys : List ℕ) → in_eight m ++ xs ≡ in_eight n ++ ys → (m ≡ n) × (xs ≡ ys)
eight_same m n xs ys e =
    let a : m / 72057594037927936 ≡ n / 72057594037927936 = ap (λ x. get_or x 0 0) e in
    let b : m / 281474976710656 % 256 ≡ n / 281474976710656 % 256 = ap (λ x. get_or x 1 0) e in
    let c : m / 1099511627776 % 256 ≡ n / 1099511627776 % 256 = ap (λ x. get_or x 2 0) e in
    let d : m / 4294967296 % 256 ≡ n / 4294967296 % 256 = ap (λ x. get_or x 3 0) e in
    let f : m / 16777216 % 256 ≡ n / 16777216 % 256 = ap (λ x. get_or x 4 0) e in
    let g : m / 65536 % 256 ≡ n / 65536 % 256 = ap (λ x. get_or x 5 0) e in
    let h : m / 256 % 256 ≡ n / 256 % 256 = ap (λ x. get_or x 6 0) e in
    let i : m % 256 ≡ n % 256 = ap (λ x. get_or x 7 0) e in
    (omega arith, ap (λ x. drop 8 x) e)

other : (f g : Frame) (m n : ℕ) → get_or (spelled f) 0 0 ≡ m → get_or (spelled g) 0 0 ≡ n → (m ≡ n → ⊥) → spelled f ≡ spelled g → f ≡ g
other f g m n p q apart e = absurd (apart (sym p ∙ ap (λ x. get_or x 0 0) e ∙ q))

-- a frame is known by its bytes
pub frame_same : (f g : Frame) → spelled f ≡ spelled g → f ≡ g
frame_same (a_header c) (a_header d) e = ap a_header (two_same c d (ap (λ x. get_or x 1 0) e) (ap (λ x. get_or x 2 0) e))
frame_same (a_rule g xs) (a_rule h ys) e = ap (λ x. a_rule x xs) (ap (λ x. get_or x 1 0) e) ∙ ap (a_rule h) (ap (λ x. drop 3 x) e)
frame_same (a_page v s xs) (a_page w t ys) e =
    let parts = eight_same s t xs ys (ap (λ x. drop 2 x) e) in
    ap (λ x. a_page x s xs) (way_same v w (ap (λ x. get_or x 1 0) e)) ∙ ap (λ x. a_page w x xs) parts.0 ∙ ap (a_page w t) parts.1
frame_same (a_trailer m n) (a_trailer k l) e = ap (λ x. a_trailer x n) (ap (λ x. get_or x 1 0) e) ∙ ap (a_trailer k) (ap (λ x. get_or x 2 0) e)
frame_same (a_header c) (a_rule h ys) e = other (a_header c) (a_rule h ys) 1 2 refl refl (λ z. omega arith) e
frame_same (a_header c) (a_page w t ys) e = other (a_header c) (a_page w t ys) 1 3 refl refl (λ z. omega arith) e
frame_same (a_header c) (a_trailer k l) e = other (a_header c) (a_trailer k l) 1 4 refl refl (λ z. omega arith) e
frame_same (a_rule g xs) (a_header d) e = other (a_rule g xs) (a_header d) 2 1 refl refl (λ z. omega arith) e
frame_same (a_rule g xs) (a_page w t ys) e = other (a_rule g xs) (a_page w t ys) 2 3 refl refl (λ z. omega arith) e
frame_same (a_rule g xs) (a_trailer k l) e = other (a_rule g xs) (a_trailer k l) 2 4 refl refl (λ z. omega arith) e
frame_same (a_page v s xs) (a_header d) e = other (a_page v s xs) (a_header d) 3 1 refl refl (λ z. omega arith) e
frame_same (a_page v s xs) (a_rule h ys) e = other (a_page v s xs) (a_rule h ys) 3 2 refl refl (λ z. omega arith) e
frame_same (a_page v s xs) (a_trailer k l) e = other (a_page v s xs) (a_trailer k l) 3 4 refl refl (λ z. omega arith) e
frame_same (a_trailer m n) (a_header d) e = other (a_trailer m n) (a_header d) 4 1 refl refl (λ z. omega arith) e
frame_same (a_trailer m n) (a_rule h ys) e = other (a_trailer m n) (a_rule h ys) 4 2 refl refl (λ z. omega arith) e
frame_same (a_trailer m n) (a_page w t ys) e = other (a_trailer m n) (a_page w t ys) 4 3 refl refl (λ z. omega arith) e
