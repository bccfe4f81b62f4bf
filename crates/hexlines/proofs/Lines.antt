-- Where a line begins a text, and where none does.
use Rattle.std.proofs.Common.{◌≡◌, ℕ, suc, ◌+◌, ◌*◌, ◌/◌, ◌%◌, ◌<◌, ◌≤◌, ◌⊎◌, List, [], ◌∷◌, ◌++◌, length, get_or, drop, Some, None, sym, refl, ap, ◌∙◌, subst, inl, inr, append_assoc, add-zero, arith, length-drop}
use Rattle.std.proofs.lemmas.List.{length-append, drop-drop, drop_more, get_or-drop}
use Rattle.hexlines.specs.Hex.{digit, hex, line, Bytes, Pair, Front, Begins}
use Rattle.hexlines.proofs.Hexes.{hex_append, hex_nil, hex_cons, length_hex, digit_not_feed, byte_same, bytes_append}

-- a line and what follows it
line_then : (bs rest : List ℕ) → line bs ++ rest ≡ hex bs ++ 10 ∷ rest
unfolding line
line_then bs rest = append_assoc (hex bs) (10 ∷ []) rest

pub length_line : (bs : List ℕ) → length (line bs) ≡ 2 * length bs + 1
unfolding line
length_line bs = let n = length-append (hex bs) (10 ∷ []) in let m = length_hex bs in omega arith

-- a text begins with one line only
digits_same : (bs cs r q : List ℕ) → hex bs ++ 10 ∷ r ≡ hex cs ++ 10 ∷ q → (bs ≡ cs) × (r ≡ q)
unfolding hex
digits_same [] [] r q e = (refl, ap (λ l. drop 1 l) e)
digits_same [] (c ∷ cs) r q e = absurd (digit_not_feed (c / 16) (sym (ap (λ l. get_or l 0 0) e)))
digits_same (b ∷ bs) [] r q e = absurd (digit_not_feed (b / 16) (ap (λ l. get_or l 0 0) e))
digits_same (b ∷ bs) (c ∷ cs) r q e =
    let same = byte_same b c (ap (λ l. get_or l 0 0) e) (ap (λ l. get_or l 1 0) e) in
    let more = digits_same bs cs r q (ap (λ l. drop 2 l) e) in
    (ap (λ x. x ∷ bs) same ∙ ap (λ l. c ∷ l) more.0, more.1)

pub line_same : (bs cs r q : List ℕ) → line bs ++ r ≡ line cs ++ q → (bs ≡ cs) × (r ≡ q)
line_same bs cs r q e = digits_same bs cs r q (sym (line_then bs r) ∙ e ∙ line_then cs q)

-- where digits and then q are a line, q goes on with a byte's digits or with the line feed
meets : (ds bs q r : List ℕ) → hex ds ++ q ≡ hex bs ++ 10 ∷ r → Bytes bs →
    ((length ds < length bs) × ((b : ℕ) × (p : List ℕ) × (b < 256) × (q ≡ digit (b / 16) ∷ digit (b % 16) ∷ p))) ⊎ ((length ds ≡ length bs) × (q ≡ 10 ∷ r))
unfolding hex
meets [] [] q r e h = inr (refl, e)
meets [] (b ∷ bs) q r e h = inl (omega arith, (b, hex bs ++ 10 ∷ r, h.0, e))
meets (d ∷ ds) [] q r e h = absurd (digit_not_feed (d / 16) (ap (λ l. get_or l 0 0) e))
meets (d ∷ ds) (b ∷ bs) q r e h =
    elim (meets ds bs q r (ap (λ l. drop 2 l) e) h.1) [ inl x ↦ inl (let h = x.0 in omega arith, x.1) | inr y ↦ inr (ap suc y.0, y.1) ]

-- the front ds is all there is of digits, and no line feed comes next: no line begins the text
no_line : (text ds q : List ℕ) → text ≡ hex ds ++ q → (length ds < 74 → Pair q None) → (0 < length ds → 0 < length q → get_or q 0 0 ≡ 10 → ⊥) →
    (bs rest : List ℕ) → Begins text bs rest → ⊥
no_line text ds q e stops no-feed bs rest h =
    elim (meets ds bs q rest (sym e ∙ h.spells ∙ line_then bs rest) h.small) [
      | inl x ↦ let few = h.few in let less = x.0 in stops (omega arith) x.1.0 x.1.1 x.1.2 x.1.3
      | inr y ↦ let some = h.some in let same = y.0 in no-feed (omega arith) (omega (arith, ap length y.1)) (ap (λ l. get_or l 0 0) y.1)
    ]

pub front_within : (text bytes : List ℕ) → Front text bytes → 2 * length bytes ≤ length text
front_within text bytes f = omega (arith, ap length f.spells, length-append (hex bytes) (drop (2 * length bytes) text), length_hex bytes)

pub front_none : (text bytes : List ℕ) → bytes ≡ [] → Front text bytes
front_none text bytes e =
    let none : Front text [] = record { small = tt; spells = sym (ap (λ l. l ++ text) hex_nil) } in
    subst (Front text) (sym e) none

-- one byte more
pub front_more : (text bytes more : List ℕ) (b : ℕ) → Front text bytes → Pair (drop (2 * length bytes) text) (Some b) → more ≡ bytes ++ b ∷ [] → Front text more
front_more text bytes more b f p e =
    let n = length bytes in
    let longer = length-append bytes (b ∷ []) in
    let count = ap length e in
    let two : 2 * n + 2 ≡ 2 * length more = omega arith in
    let next : drop 2 (drop (2 * n) text) ≡ drop (2 * length more) text = drop-drop 2 (2 * n) text ∙ ap (λ i. drop i text) two in
    let here : drop (2 * n) text ≡ hex (b ∷ []) ++ drop (2 * length more) text =
    p.1 ∙ ap (λ l. digit (b / 16) ∷ digit (b % 16) ∷ l) next ∙ sym (ap (λ l. l ++ drop (2 * length more) text) (hex_cons b [] ∙ ap (λ l. digit (b / 16) ∷ digit (b % 16) ∷ l) hex_nil)) in
    record {
      small = subst Bytes (sym e) (bytes_append bytes (b ∷ []) f.small (p.0, tt));
      spells = f.spells ∙ ap (λ l. hex bytes ++ l) here ∙ sym (append_assoc (hex bytes) (hex (b ∷ [])) (drop (2 * length more) text))
          ∙ ap (λ l. l ++ drop (2 * length more) text) (sym (hex_append bytes (b ∷ [])) ∙ ap hex (sym e));
    }

-- a line feed after a front makes a line of it
pub front_line : (text bytes : List ℕ) → 0 < length bytes → length bytes ≤ 74 → Front text bytes → (2 * length bytes < length text) × (get_or text (2 * length bytes) 0 ≡ 10) →
    Begins text bytes (drop (2 * length bytes + 1) text)
front_line text bytes some few f feed =
    let n = 2 * length bytes in
    record {
      some = some;
      few = few;
      small = f.small;
      spells = f.spells ∙ ap (λ l. hex bytes ++ l) (drop_more text n 0 feed.0 ∙ ap (λ x. x ∷ drop (n + 1) text) feed.1) ∙ sym (line_then bytes (drop (n + 1) text));
    }

-- no line begins a text whose front is empty, or ends without a line feed
pub front_no_line : (text bytes : List ℕ) → Front text bytes → (length bytes < 74 → Pair (drop (2 * length bytes) text) None) →
    (0 < length bytes → 2 * length bytes < length text → get_or text (2 * length bytes) 0 ≡ 10 → ⊥) → (bs rest : List ℕ) → Begins text bs rest → ⊥
front_no_line text bytes f stops no-feed =
    let n = 2 * length bytes in
    let at : get_or (drop n text) 0 0 ≡ get_or text n 0 = get_or-drop n text 0 0 ∙ ap (λ i. get_or text i 0) (add-zero n) in
    no_line text bytes (drop n text) f.spells stops (λ some more feed. no-feed some (omega (arith, length-drop n text)) (sym at ∙ feed))
