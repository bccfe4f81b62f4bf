use Rattle.std.proofs.Common.{◌+◌, ◌*◌, [], ◌∷◌, get_or, sym, ap, ◌∙◌, arith}
use Rattle.std.proofs.lemmas.List.{take_all}
use Rattle.hexlines.specs.Hex.{hex}
use Rattle.hexlines.proofs.Hexes.{hex_nil}
use Rattle.archive.specs.Writing.{over}
use Rattle.archive.proofs.Over.{over_none, over_bytes_more}
use Rattle.archive.proofs.writing.put_bytes.Goals as goal

pub loop-i-init : goal.loop-i-init
loop-i-init c = sym (ap (λ l. over c.args.at l c.args.memory.now) hex_nil ∙ over_none c.args.at c.args.memory.now)

pub loop-i-preserved : goal.loop-i-preserved
loop-i-preserved c =
    let at = c.args.at in
    let bytes = c.args.bytes.now in
    let i = c.loop-i.i in
    c.put_byte.ensures ∙ ap (over (at + 2 * i) (hex (get_or bytes i 0 ∷ []))) c.loop-i.invariant ∙ over_bytes_more c.args.memory.now bytes at i (omega arith) c.requires

pub returns : goal.returns
returns c = c.loop-i.invariant ∙ ap (λ l. over c.args.at (hex l) c.args.memory.now) (take_all c.loop-i.i c.args.bytes.now (omega arith))
