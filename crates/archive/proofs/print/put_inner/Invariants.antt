use Rattle.std.proofs.Common.{◌+◌, ◌*◌, ◌≤◌, map}
use Rattle.rules.specs.Shapes.{rules_of}
use Rattle.book.specs.View.{page_of}
use Rattle.archive.proofs.Sequence.{Sofar}
use Rattle.archive.proofs.print.put_inner.Given as goal

abbrev pub invariant-loop-k : goal.invariant-loop-k
invariant-loop-k l =
    Sofar l.initial.memory l.at l.k (rules_of l.rules) (map (page_of (rules_of l.rules)) l.pages) l.memory l.end × (l.end ≤ l.at + 9685 * l.k)
