use Rattle.std.proofs.Common.{sym, arith}
use Rattle.sets.proofs.Members.{has_high}
use Rattle.sets.proofs.set.contains_place.Goals as goal

pub returns-in-None : goal.returns-in-None
returns-in-None c = sym (has_high 64 c.args.set c.args.place (omega arith) c.in-None.ensures)
