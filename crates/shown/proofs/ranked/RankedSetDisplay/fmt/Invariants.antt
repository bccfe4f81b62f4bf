use Rattle.std.proofs.Common.{◌≡◌, ◌++◌, map}
use Rattle.std.specs.Fmt.{HasWritten, IsPlainFormatter}
use Rattle.sets.specs.Walks.{decisions}
use Rattle.shown.specs.Shown.{ranks_text}
use Rattle.shown.proofs.ranked.RankedSetDisplay.fmt.Given as goal

abbrev pub invariant-loop-d : goal.invariant-loop-d
invariant-loop-d g l = record {
  left : decisions l.initial.d-iterator.rest ≡ map (λ d. d.place) l.yielded ++ decisions l.d-iterator.rest;
  wrote : IsPlainFormatter l.fn.f → HasWritten g.W.Write.write_str_gives l.fn.f (ranks_text l.self.ranks.bytes (map (λ d. d.place) l.yielded)) l.f;
}
