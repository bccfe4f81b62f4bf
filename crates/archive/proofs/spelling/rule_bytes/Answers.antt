use Rattle.std.proofs.Common.{◌++◌, map, length, sym, ap, ◌∙◌, arith}
use Rattle.std.proofs.lemmas.List.{length-map}
use Rattle.rows.specs.Rows.{held}
use Rattle.rules.specs.Shapes.{entry_of, head_of}
use Rattle.answer_sets.specs.Naming.{head_number}
use Rattle.archive.specs.Text.{body_bytes}
use Rattle.archive.proofs.Pieces.{rule_spelled, short_body}
use Rattle.archive.proofs.spelling.rule_bytes.Goals as goal

pub overflow_cast-body : goal.overflow_cast-body
overflow_cast-body c =
    let n = ap length c.body-body.ensures in
    let m = short_body c.args.rule.now in omega arith

pub add_body-requires : goal.add_body-requires
add_body-requires c =
    let n = ap length c.body-body.ensures in
    let m = short_body c.args.rule.now in
    let k = ap length c.line_of-line.ensures in omega arith

pub returns : goal.returns
returns c =
    let rule = c.args.rule.now in
    let body = map entry_of (held rule.body) in
    let n = ap length c.body-body.ensures ∙ sym (length-map (held rule.body) entry_of) in
    rule_spelled (head_of rule.head) body c.head_number.result (length c.body-body.result.now) (held c.line_of-line.result) (held c.add_body.new.line)
    (c.head_number.ensures ∙ ap (λ h. head_number (head_of h)) c.head.ensures)
    n c.line_of-line.ensures (c.add_body.ensures ∙ ap (λ l. held c.line_of-line.result ++ body_bytes (map entry_of l)) c.body-body.ensures)
