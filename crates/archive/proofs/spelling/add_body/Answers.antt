use Rattle.std.proofs.Common.{◌++◌, map, length, take, ap, ◌∙◌, arith, length-append}
use Rattle.std.proofs.lemmas.List.{take_all, length-take-le, length-map}
use Rattle.rows.specs.Rows.{held}
use Rattle.rules.specs.Shapes.{entry_of}
use Rattle.archive.specs.Text.{body_bytes}
use Rattle.archive.proofs.Pieces.{body_more, length_body}
use Rattle.archive.proofs.spelling.add_body.Goals as goal

pub add_all-requires : goal.add_all-requires
add_all-requires c =
    let body = c.args.body.now in
    let i = c.loop-e.e-index in
    let front = map entry_of (take i body) in
    let a = ap length c.loop-e.invariant ∙ length-append (held c.args.line.now) (body_bytes front) in
    let b = length_body front in
    let d = length-map (take i body) entry_of in
    let e = length-take-le i body (omega arith) in
    let two = ap length c.entry_bytes.ensures in
    omega arith

pub loop-e-preserved : goal.loop-e-preserved
loop-e-preserved c =
    body_more (held c.args.line.now) (held c.loop-e.line) (held c.add_all.new.line) c.args.body.now c.loop-e.e-index (omega arith) c.loop-e.invariant
    (c.add_all.ensures ∙ ap (λ l. held c.loop-e.line ++ l) (c.entry_bytes.ensures))

pub returns : goal.returns
returns c = c.loop-e.invariant ∙ ap (λ l. held c.args.line.now ++ body_bytes (map entry_of l)) (take_all c.loop-e.e-index c.args.body.now (omega arith))
