use Rattle.std.proofs.Common.{◌≡◌, ◌++◌, map, length, sym, ap, ◌∙◌}
use Rattle.std.proofs.lemmas.List.{length-map}
use Rattle.rows.specs.Rows.{held}
use Rattle.rules.specs.Shapes.{rule_of, rules_of}
use Rattle.book.specs.View.{page_of, account_of}
use Rattle.hexlines.specs.Hex.{line}
use Rattle.frames.specs.Frames.{spelled, a_header, a_trailer}
use Rattle.archive.specs.Text.{inner, lines, text_of}
use Rattle.archive.proofs.Over.{puts_same, puts_then}
use Rattle.archive.proofs.Sequence.{text_parts}
use Rattle.archive.proofs.print.put_text.Goals as goal

pub returns : goal.returns
returns c =
    let rules = c.args.rules.now in
    let pages = c.args.pages.now in
    let view = page_of (rules_of rules) in
    let first = line (held c.header_bytes.result) in
    let middle = lines (inner 0 (rules_of rules) (map view pages)) in
    let last = line (held c.trailer_bytes.result) in
    let m0 = c.args.memory.now in
    let m1 = c.put_line-start.new.memory in
    let m2 = c.put_inner-end.new.memory in
    let m3 = c.put_line.new.memory in
    let counts : held c.trailer_bytes.result ≡ spelled (a_trailer (length (rules_of rules)) (length (map view pages))) =
    c.trailer_bytes.ensures ∙ ap (λ n. spelled (a_trailer n (length pages))) (sym (length-map rules rule_of)) ∙ ap (λ n. spelled (a_trailer (length (rules_of rules)) n)) (sym (length-map pages view)) in
    puts_same m0 0 ((first ++ middle) ++ last) (text_of c.args.count (account_of rules pages)) m3 c.put_line.result
    (ap (λ l. (line l ++ middle) ++ last) c.header_bytes.ensures ∙ ap (λ l. (line (spelled (a_header c.args.count)) ++ middle) ++ line l) counts ∙ sym (text_parts c.args.count (account_of rules pages)))
    (puts_then m0 m2 m3 0 c.put_inner-end.result c.put_line.result (first ++ middle) last
    (puts_then m0 m1 m2 0 c.put_line-start.result c.put_inner-end.result first middle c.put_line-start.ensures.puts c.put_inner-end.ensures.puts) c.put_line.ensures.puts)
