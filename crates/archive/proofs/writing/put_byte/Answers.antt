use Rattle.std.proofs.Common.{◌≡◌, ◌+◌, ◌/◌, ◌%◌, get_or, set, ap, ◌∙◌}
use Rattle.hexlines.specs.Hex.{digit}
use Rattle.archive.proofs.Over.{over_byte}
use Rattle.archive.proofs.writing.put_byte.Goals as goal

pub returns : goal.returns
returns c =
    let at = c.args.at in
    let b = c.args.b in
    let was = c.args.memory.now in
    let high : get_or c.digits_of.result 0 0 ≡ digit (b / 16) = ap (λ l. get_or l 0 0) c.digits_of.ensures in
    let low : get_or c.digits_of.result 1 0 ≡ digit (b % 16) = ap (λ l. get_or l 1 0) c.digits_of.ensures in
    c.put-2.ensures ∙ ap (λ l. set l (at + 1) (get_or c.digits_of.result 1 0)) (c.put.ensures ∙ ap (set was at) high)
    ∙ ap (set (set was at (digit (b / 16))) (at + 1)) low ∙ over_byte was at b c.requires
