use Rattle.std.proofs.Common.{length}
use Rattle.weighed.proofs.weighing.Weighing.+misses_from.Given as goal

abbrev pub decreases-misses_from : goal.decreases-misses_from
decreases-misses_from g l = length l.row.now
