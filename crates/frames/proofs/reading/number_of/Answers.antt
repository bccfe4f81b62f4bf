use Rattle.std.proofs.Common.{◌≡◌, ◌/◌, ◌%◌, arith}
use Rattle.frames.proofs.reading.number_of.Goals as goal

pub returns : goal.returns
returns x =
    let r = x.from_be_bytes.result in
    let n = x.from_be_bytes.ensures in
    let a : r / 72057594037927936 ≡ x.args.a = omega arith in
    let b : r / 281474976710656 % 256 ≡ x.args.b = omega arith in
    let c : r / 1099511627776 % 256 ≡ x.args.c = omega arith in
    let d : r / 4294967296 % 256 ≡ x.args.d = omega arith in
    let e : r / 16777216 % 256 ≡ x.args.e = omega arith in
    let f : r / 65536 % 256 ≡ x.args.f = omega arith in
    let g : r / 256 % 256 ≡ x.args.g = omega arith in
    let h : r % 256 ≡ x.args.h = omega arith in
    simp (a, b, c, d, e, f, g, h)
