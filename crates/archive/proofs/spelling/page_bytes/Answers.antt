use Rattle.std.proofs.Common.{[], ◌++◌, refl, ap, ◌∙◌}
use Rattle.rows.specs.Rows.{held}
use Rattle.rules.specs.Bytes.{way_byte}
use Rattle.rules.specs.Shapes.{way_of}
use Rattle.book.specs.View.{page_of}
use Rattle.archive.proofs.Pieces.{page_spelled}
use Rattle.archive.proofs.spelling.page_bytes.Goals as goal

pub returns : goal.returns
returns c =
    page_spelled (page_of [] c.args.page.now) (way_byte (way_of c.args.page.now.way)) (held c.line_of-line.result) (held c.add_all.new.line) (held c.add_ranks.new.line)
    refl (c.line_of-line.ensures ∙ c.page_front.ensures) (c.add_all.ensures ∙ ap (λ l. held c.line_of-line.result ++ l) c.eight_bytes.ensures) c.add_ranks.ensures
