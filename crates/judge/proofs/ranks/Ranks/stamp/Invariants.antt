use Rattle.std.proofs.Common.{map}
use Rattle.judge.proofs.Each.{StampedAt}
use Rattle.judge.proofs.ranks.Ranks.stamp.Given as goal

abbrev pub invariant-loop-d : goal.invariant-loop-d
invariant-loop-d l = StampedAt l.rank l.initial.self.bytes (map (λ d. d.place) l.yielded) l.self.bytes
