-- Texts put into memory, one after another.
use Rattle.std.proofs.Common.{◌≡◌, ℕ, ◌+◌, ◌-◌, ◌*◌, ◌/◌, ◌%◌, ◌<◌, ◌≤◌, List, [], ◌∷◌, ◌++◌, length, get_or, take, drop, set, sym, refl, ap, ◌∙◌, subst, append_assoc, append-nil, zero-add, add-one, arith, length-append}
use Rattle.std.proofs.lemmas.List.Edits.{sets-eq}
use Rattle.std.proofs.lemmas.List.{length-take-le, take_at, drop_at, drop-drop, take_more, take-append-drop, length-set}
use Rattle.hexlines.specs.Hex.{digit, hex, line}
use Rattle.hexlines.proofs.Hexes.{hex_append, length_hex}
use Rattle.hexlines.proofs.Lines.{length_line}
use Rattle.archive.specs.Writing.{over, Puts, Printed}

pub over_none : (at : ℕ) (out : List ℕ) → over at [] out ≡ out
unfolding over
over_none at out = let e : at + 0 ≡ at = omega arith in ap (λ l. l ++ drop (at + 0) out) (append-nil (take at out)) ∙ ap (λ i. take at out ++ drop i out) e ∙ take-append-drop at out

over_one : (out : List ℕ) (at x : ℕ) → at < length out → set out at x ≡ over at (x ∷ []) out
unfolding over
over_one out at x h = sets-eq (x ∷ []) out at (omega arith)

-- the two digits of a byte
pub over_byte : (out : List ℕ) (at b : ℕ) → at + 2 ≤ length out → set (set out at (digit (b / 16))) (at + 1) (digit (b % 16)) ≡ over at (hex (b ∷ [])) out
unfolding over hex
over_byte out at b h = ap (λ i. set (set out at (digit (b / 16))) i (digit (b % 16))) (add-one at) ∙ sets-eq (digit (b / 16) ∷ digit (b % 16) ∷ []) out at h

over_over : (at k : ℕ) (ds es out : List ℕ) → k ≡ at + length ds → k ≤ length out → over k es (over at ds out) ≡ over at (ds ++ es) out
unfolding over
over_over at k ds es out e h =
    let p = take at out ++ ds in
    let m = length es in
    let long : length p ≡ k = let n = length-take-le at out (omega arith) in length-append (take at out) ds ∙ (omega arith) in
    let front : take k (over at ds out) ≡ p = take_at p (drop (at + length ds) out) k long in
    let back : drop (k + m) (over at ds out) ≡ drop (k + m) out =
    sym (drop-drop m k (over at ds out)) ∙ ap (λ l. drop m l) (drop_at p (drop (at + length ds) out) k long ∙ ap (λ i. drop i out) (sym e)) ∙ drop-drop m k out in
    let end : k + m ≡ at + length (ds ++ es) = let n = length-append ds es in omega arith in
    ap (λ l. (l ++ es) ++ drop (k + m) (over at ds out)) front ∙ ap (λ l. (p ++ es) ++ l) (back ∙ ap (λ i. drop i out) end)
    ∙ ap (λ l. l ++ drop (at + length (ds ++ es)) out) (append_assoc (take at out) ds es)

-- one byte more of some
pub over_bytes_more : (out bytes : List ℕ) (at i : ℕ) → i < length bytes → at + 2 * length bytes ≤ length out →
    over (at + 2 * i) (hex (get_or bytes i 0 ∷ [])) (over at (hex (take i bytes)) out) ≡ over at (hex (take (i + 1) bytes)) out
over_bytes_more out bytes at i lt h =
    let n = length_hex (take i bytes) in
    let m = length-take-le i bytes (omega arith) in
    over_over at (at + 2 * i) (hex (take i bytes)) (hex (get_or bytes i 0 ∷ [])) out (omega arith) (omega arith)
    ∙ ap (λ l. over at l out) (sym (hex_append (take i bytes) (get_or bytes i 0 ∷ [])) ∙ ap hex (sym (take_more bytes i 0 lt)))

-- a line: digits, and a line feed
over_line : (out bytes : List ℕ) (at end : ℕ) → end ≡ at + 2 * length bytes → end < length out → over end (10 ∷ []) (over at (hex bytes) out) ≡ over at (line bytes) out
unfolding line
over_line out bytes at end e h = let n = length_hex bytes in over_over at end (hex bytes) (10 ∷ []) out (omega arith) (omega arith)

-- a line whose digits and line feed were written
pub line_puts : (was mid after bytes slice : List ℕ) (at : ℕ) → slice ≡ bytes → at + 2 * length slice + 1 ≤ length was → mid ≡ over at (hex slice) was → length mid ≡ length was →
    after ≡ set mid (at + 2 * length slice + 1 - 1) 10 → Puts was at (line bytes) after (at + 2 * length slice + 1)
line_puts was mid after bytes slice at same room first long second =
    let n = length_line bytes in
    let m = ap length same in
    let place : at + 2 * length slice + 1 - 1 ≡ at + 2 * length bytes = omega arith in
    record {
      ends = omega arith;
      long = ap length second ∙ length-set mid (at + 2 * length slice + 1 - 1) 10 ∙ long;
      written = λ _. second ∙ ap (λ i. set mid i 10) place ∙ over_one mid (at + 2 * length bytes) 10 (omega arith)
          ∙ ap (over (at + 2 * length bytes) (10 ∷ [])) (first ∙ ap (λ l. over at (hex l) was) same) ∙ over_line was bytes at (at + 2 * length bytes) refl (omega arith);
    }

pub puts_none : (before : List ℕ) (at : ℕ) → Puts before at [] before at
puts_none before at = record { ends = omega arith; long = refl; written = λ _. sym (over_none at before) }

pub puts_same : (before : List ℕ) (at : ℕ) (text other after : List ℕ) (end : ℕ) → text ≡ other → Puts before at text after end → Puts before at other after end
puts_same before at text other after end e p = subst (λ t. Puts before at t after end) e p

-- one text after another
pub puts_then : (before first second : List ℕ) (at mid end : ℕ) (text more : List ℕ) → Puts before at text first mid → Puts first mid more second end → Puts before at (text ++ more) second end
puts_then before first second at mid end text more p q =
    let n = length-append text more in
    let a = p.ends in
    let b = q.ends in
    let l = p.long in
    record {
      ends = omega arith;
      long = q.long ∙ p.long;
      written = λ room. q.written (omega arith) ∙ ap (over mid more) (p.written (omega arith)) ∙ over_over at mid text more before a (omega arith);
    }

-- a text put at the front of memory that has room for it
pub puts_front : (before text after : List ℕ) (end : ℕ) → Puts before 0 text after end → end ≤ length before → Printed text before end after
unfolding over
puts_front before text after end p room =
    let n : end ≡ length text = p.ends ∙ zero-add (length text) in
    record { counts = n; room = room; holds = p.written room ∙ ap (λ i. text ++ drop i before) (sym p.ends) }
