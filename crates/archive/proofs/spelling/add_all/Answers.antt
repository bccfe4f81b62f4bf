use Rattle.std.proofs.Common.{[], ◌∷◌, ◌++◌, length, get_or, take, sym, ap, ◌∙◌, append_assoc, arith, length-append}
use Rattle.std.proofs.lemmas.List.{take_all, take_more, length-take-le}
use Rattle.rows.specs.Rows.{held}
use Rattle.archive.proofs.spelling.add_all.Goals as goal

pub add-requires : goal.add-requires
add-requires c =
    let i = c.loop-b.b-index in
    let bytes = c.args.bytes.now in
    let k = ap length c.loop-b.invariant ∙ length-append (held c.args.line.now) (take i bytes) in
    let m = length-take-le i bytes (omega arith) in
    omega arith

pub loop-b-preserved : goal.loop-b-preserved
loop-b-preserved c =
    let i = c.loop-b.b-index in
    let bytes = c.args.bytes.now in
    let was = held c.args.line.now in
    c.add.ensures ∙ ap (λ l. l ++ get_or bytes i 0 ∷ []) c.loop-b.invariant ∙ append_assoc was (take i bytes) (get_or bytes i 0 ∷ [])
    ∙ ap (λ l. was ++ l) (sym (take_more bytes i 0 (omega arith)))

pub returns : goal.returns
returns c = c.loop-b.invariant ∙ ap (λ l. held c.args.line.now ++ l) (take_all c.loop-b.b-index c.args.bytes.now (omega arith))
