use Rattle.std.proofs.Common.{◌≡◌, map, length, get_or, sym, ap, ◌∙◌, subst, arith}
use Rattle.std.proofs.lemmas.List.{length-map, get_or-map}
use Rattle.rows.specs.Rows.{held}
use Rattle.rules.specs.Shapes.{rule_of, rules_of}
use Rattle.book.specs.View.{page_of}
use Rattle.hexlines.specs.Hex.{line}
use Rattle.frames.specs.Frames.{spelled}
use Rattle.archive.specs.Text.{rule_frame}
use Rattle.archive.specs.Writing.{Puts, lines_on}
use Rattle.archive.proofs.Over.{puts_same}
use Rattle.archive.proofs.Sequence.{sofar_none, sofar_more, sofar_all}
use Rattle.archive.proofs.print.put_inner.Goals as goal

pub loop-k-init : goal.loop-k-init
loop-k-init c = (sofar_none c.args.memory.now c.args.at (rules_of c.args.rules.now) _, omega arith)

pub loop-k-preserved : goal.loop-k-preserved
loop-k-preserved c =
    let k = c.loop-k.k in
    let rules = c.args.rules.now in
    let rule = c.index-rules-k.result in
    let pages = map (page_of (rules_of rules)) c.args.pages.now in
    let same = length-map rules rule_of in
    let less = c.loop-k-test.true in
    let here : get_or (rules_of rules) k (rule_of rule) ≡ rule_of rule = get_or-map rule_of rules k rule (rule_of rule) less ∙ ap rule_of (sym c.index-rules-k.is) in
    let first = c.put_pages-end.ensures in
    let second = c.put_line-end.ensures in
    let near = first.near in
    let nearer = second.near in
    let was = c.loop-k.invariant.1 in (
      sofar_more c.args.memory.now c.loop-k.memory c.put_pages-end.new.memory c.put_line-end.new.memory c.args.at k c.loop-k.end c.put_pages-end.result
          c.put_line-end.result (rules_of rules) pages (rule_of rule) (omega arith) here c.loop-k.invariant.0 first.puts
          (puts_same c.put_pages-end.new.memory c.put_pages-end.result (line (held c.rule_bytes.result)) (line (spelled (rule_frame (rule_of rule)))) c.put_line-end.new.memory
          c.put_line-end.result (ap line c.rule_bytes.ensures) second.puts),
      omega arith,
    )

pub returns : goal.returns
returns c =
    let k = c.loop-k.k in
    let rules = c.args.rules.now in
    let pages = map (page_of (rules_of rules)) c.args.pages.now in
    let same = length-map rules rule_of in
    let all : length rules ≡ k = omega arith in
    let last = c.put_pages.ensures in
    let near = last.near in
    let was = c.loop-k.invariant.1 in
    record {
      puts = sofar_all c.args.memory.now c.loop-k.memory c.put_pages.new.memory c.args.at k c.loop-k.end c.put_pages.result (rules_of rules) pages (omega arith)
          c.loop-k.invariant.0 (subst (λ n. Puts c.loop-k.memory c.loop-k.end (lines_on n pages) c.put_pages.new.memory c.put_pages.result) all last.puts);
      near = omega arith;
    }
