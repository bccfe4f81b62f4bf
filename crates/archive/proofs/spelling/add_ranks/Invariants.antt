use Rattle.std.proofs.Common.{◌≡◌, ◌++◌, map}
use Rattle.sets.specs.Walks.{decisions}
use Rattle.answer_sets.specs.Rules.{rank}
use Rattle.rows.specs.Rows.{held}
use Rattle.archive.proofs.spelling.add_ranks.Given as goal

abbrev pub invariant-loop-d : goal.invariant-loop-d
invariant-loop-d l = held l.line ++ map (rank l.ranks.bytes) (decisions l.d-iterator.rest) ≡ held l.initial.line ++ map (rank l.ranks.bytes) (decisions l.«set»)
