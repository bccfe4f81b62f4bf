use Rattle.std.proofs.Common.{List, subst, arith}
use Rattle.rows.specs.Rows.{held}
use Rattle.rules.specs.declared.rule.Rule.{Rule}
use Rattle.book.specs.View.{account_of}
use Rattle.book.specs.declared.page.Page.{Page}
use Rattle.archive.specs.Text.{text_of}
use Rattle.archive.specs.Writing.{Printed}
use Rattle.archive.proofs.Over.{puts_front}
use Rattle.archive.proofs.print.print_text.Goals as goal

pub returns : goal.returns
returns c =
    let count = c.args.count in
    let n = c.put_text-needed.ensures.ends in
    let m = c.put_text.ensures.ends in
    let here = puts_front c.args.memory.now (text_of count (account_of c.as_slice-rules.result.now c.as_slice-pages.result.now)) c.put_text.new.memory c.put_text.result c.put_text.ensures (omega arith) in
    subst (λ (ps : List Page). Printed (text_of count (account_of (held c.args.rules.now) ps)) c.args.memory.now c.put_text.result c.put_text.new.memory) c.as_slice-pages.ensures
    (subst (λ (rs : List Rule). Printed (text_of count (account_of rs c.as_slice-pages.result.now)) c.args.memory.now c.put_text.result c.put_text.new.memory) c.as_slice-rules.ensures here)
