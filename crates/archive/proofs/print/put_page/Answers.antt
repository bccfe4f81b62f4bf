use Rattle.std.proofs.Common.{true, false, [], ap, ◌∙◌, arith}
use Rattle.rows.specs.Rows.{held}
use Rattle.rules.specs.Shapes.{rules_of}
use Rattle.book.specs.View.{page_of}
use Rattle.hexlines.specs.Hex.{line}
use Rattle.frames.specs.Frames.{spelled}
use Rattle.archive.proofs.Over.{puts_none, puts_same}
use Rattle.archive.proofs.Sequence.{rests, lines_on_no, lines_on_yes, page_frame_alone}
use Rattle.archive.proofs.print.put_page.Goals as goal

pub returns-then-not-rests_on : goal.returns-then-not-rests_on
returns-then-not-rests_on c =
    let rules = c.args.rules.now in
    let page = c.args.page.now in
    let k = c.args.k in
    record {
      puts = puts_same c.args.memory.now c.args.at [] _ c.args.memory.now c.args.at
          (lines_on_no k (page_of (rules_of rules) page) (rests rules page k false c.if-not-rests_on.ensures)) (puts_none c.args.memory.now c.args.at);
      near = omega arith;
    }

pub returns : goal.returns
returns c =
    let rules = c.args.rules.now in
    let page = c.args.page.now in
    let k = c.args.k in
    record {
      puts = puts_same c.args.memory.now c.args.at (line (held c.page_bytes.result)) _ c.put_line.new.memory c.put_line.result
          (ap line (c.page_bytes.ensures ∙ ap spelled (page_frame_alone (rules_of rules) page)) ∙ lines_on_yes k (page_of (rules_of rules) page) (rests rules page k true c.if-not-rests_on.ensures))
          c.put_line.ensures.puts;
      near = c.put_line.ensures.near;
    }
