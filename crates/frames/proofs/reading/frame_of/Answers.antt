use Rattle.std.proofs.Common.{◌≡◌, ◌-◌, ◌*◌, ◌/◌, ◌%◌, ◌<◌, ◌≤◌, length, get_or, take, drop, ◌∙◌, arith, rules}
use lib.Count.{ones-le}
use Rattle.std.proofs.lemmas.List.{take_rest}
use Rattle.frames.proofs.Fronts.{only_3, rule_front, page_front}
use Rattle.rules.specs.Bytes.{way_byte}
use Rattle.rules.specs.Shapes.{way_of}
use Rattle.frames.proofs.reading.frame_of.Goals as goal

pub overflow_cast-set : goal.overflow_cast-set
overflow_cast-set c = let h = ones-le 64 c.number_of-set.result c.number_of-set.type_inv in omega arith

pub returns-in-1 : goal.returns-in-1
returns-in-1 c =
    let s = c.args.bytes.now in
    let e = c.from_be_bytes.ensures in
    let t : get_or s 1 0 < 256 = omega (arith, c.type_inv.bytes 1) in
    let u : get_or s 2 0 < 256 = omega (arith, c.type_inv.bytes 2) in
    let n : length s ≡ 3 = search rules in
    let k : get_or s 0 0 ≡ 1 = search rules in
    let p : c.from_be_bytes.result / 256 ≡ get_or s 1 0 = omega arith in
    let q : c.from_be_bytes.result % 256 ≡ get_or s 2 0 = omega arith in
    (tt, only_3 s n ∙ simp (k, p, q))

pub returns-in-4 : goal.returns-in-4
returns-in-4 c =
    let s = c.args.bytes.now in
    let n : length s ≡ 3 = search rules in
    let k : get_or s 0 0 ≡ 4 = search rules in
    (tt, only_3 s n ∙ simp k)

pub returns-else-ranks-set : goal.returns-else-ranks-set
returns-else-ranks-set c =
    let s = c.args.bytes.now in
    let n : 10 ≤ length s = search rules in
    let k : get_or s 0 0 ≡ 3 = search rules in
    let way : way_byte (way_of c.in_ok-way-in-3.way) ≡ get_or s 1 0 = search rules in
    (c.if-ranks-set.false, page_front s c.number_of-set.result (way_byte (way_of c.in_ok-way-in-3.way)) n k way c.number_of-set.ensures)

pub returns-in-2 : goal.returns-in-2
returns-in-2 c =
    let s = c.args.bytes.now in
    let n : 3 ≤ length s = search rules in
    let k : get_or s 0 0 ≡ 2 = search rules in
    let r = take_rest s 3 in
    let h : length (take (length s - 3) (drop 3 s)) ≡ 2 * get_or s 2 0 = omega arith in
    (omega arith, rule_front s n k h)
