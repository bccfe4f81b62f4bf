use Rattle.std.proofs.Common.{◌+◌, ◌*◌, ◌≤◌, map, take}
use Rattle.rules.specs.Shapes.{rules_of}
use Rattle.book.specs.View.{page_of}
use Rattle.archive.specs.Writing.{Puts, lines_on}
use Rattle.archive.proofs.print.put_pages.Given as goal

abbrev pub invariant-loop-page : goal.invariant-loop-page
invariant-loop-page l =
    Puts l.initial.memory l.at (lines_on l.k (map (page_of (rules_of l.rules)) (take l.page-index l.pages))) l.memory l.end × (l.end ≤ l.at + 149 * l.page-index)
