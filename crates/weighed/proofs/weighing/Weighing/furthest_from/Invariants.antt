use Rattle.std.proofs.Common.{◌≡◌}
use Rattle.std.specs.Slice.Iter.{iter_rest}
use Rattle.sets.specs.Walks.{decisions}
use Rattle.weighed.specs.Extremes.{toward, extreme}
use Rattle.weighed.proofs.weighing.Weighing.furthest_from.Given as goal

-- what is still to be settled comes to what the whole comes to
abbrev pub invariant-loop-d : goal.invariant-loop-d
invariant-loop-d g l =
    let s = g.M.Measure.scale in let span = l.self.span in
    (goal.iterator-loop-d g).can_next l.d-iterator
    × (goal.iterator-loop-d g).is_finite l.d-iterator
    × (extreme s (toward l.end s) span.lower span.upper (decisions l.d-iterator.a.rest) (iter_rest l.d-iterator.b) l.t
    ≡ extreme s (toward l.end s) span.lower span.upper (decisions l.domain) l.row l.initial.t)
