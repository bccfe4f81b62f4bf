-- A list by its first elements.
use Rattle.std.proofs.Common.{◌≡◌, ℕ, zero, suc, ◌+◌, ◌-◌, ◌*◌, ◌/◌, ◌≤◌, List, [], ◌∷◌, ◌++◌, length, get_or, take, drop, sym, ap, ◌∙◌, arith}
use Rattle.std.proofs.lemmas.List.{take_rest, drop_more, drop_all}
use Rattle.frames.specs.Bytes.{in_eight}

-- n elements from place i on
abbrev elements : ℕ → ℕ → List ℕ → List ℕ
elements zero i s = []
elements (suc n) i s = get_or s i 0 ∷ elements n (i + 1) s

split_at : (n i : ℕ) (s : List ℕ) → i + n ≤ length s → drop i s ≡ elements n i s ++ drop (i + n) s
split_at zero i s h = let e : i ≡ i + 0 = omega arith in ap (λ k. drop k s) e
split_at (suc n) i s h =
    let e : i + 1 + n ≡ i + suc n = omega arith in
    drop_more s i 0 (omega arith) ∙ ap (λ l. get_or s i 0 ∷ l) (split_at n (i + 1) s (omega arith) ∙ ap (λ k. elements n (i + 1) s ++ drop k s) e)

-- a list of three
pub only_3 : (s : List ℕ) → length s ≡ 3 → s ≡ get_or s 0 0 ∷ get_or s 1 0 ∷ get_or s 2 0 ∷ []
only_3 s h = split_at 3 0 s (omega arith) ∙ ap (λ l. elements 3 0 s ++ l) (drop_all 3 s (omega arith))

-- a rule's bytes: the kind, the head, how many entries there are, and the entries
pub rule_front : (s : List ℕ) → 3 ≤ length s → get_or s 0 0 ≡ 2 → length (take (length s - 3) (drop 3 s)) ≡ 2 * get_or s 2 0 →
    s ≡ 2 ∷ get_or s 1 0 ∷ length (take (length s - 3) (drop 3 s)) / 2 ∷ take (length s - 3) (drop 3 s)
rule_front s n k h =
    let rest = take (length s - 3) (drop 3 s) in
    let half : get_or s 2 0 ≡ length rest / 2 = omega arith in
    split_at 3 0 s n ∙ ap (λ l. elements 3 0 s ++ l) (sym (take_rest s 3)) ∙ ap (λ x. x ∷ get_or s 1 0 ∷ get_or s 2 0 ∷ rest) k ∙ ap (λ x. 2 ∷ get_or s 1 0 ∷ x ∷ rest) half

-- a page's bytes: the kind, the way, the set in eight bytes, and the ranks
pub page_front : (s : List ℕ) (M w : ℕ) → 10 ≤ length s → get_or s 0 0 ≡ 3 → w ≡ get_or s 1 0 → in_eight M ≡ elements 8 2 s →
    s ≡ 3 ∷ w ∷ (in_eight M ++ take (length s - 10) (drop 10 s))
page_front s M w n k way bytes =
    let rest = take (length s - 10) (drop 10 s) in
    split_at 10 0 s n ∙ ap (λ l. elements 10 0 s ++ l) (sym (take_rest s 10)) ∙ ap (λ x. x ∷ get_or s 1 0 ∷ (elements 8 2 s ++ rest)) k
    ∙ ap (λ x. 3 ∷ x ∷ (elements 8 2 s ++ rest)) (sym way) ∙ ap (λ l. 3 ∷ w ∷ (l ++ rest)) (sym bytes)
