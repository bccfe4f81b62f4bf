use Rattle.std.proofs.Common.{ℕ, eqb, ap}
use Rattle.sets.specs.Sets.{has}
use Rattle.sets.proofs.set.contains.Goals as goal

pub returns : goal.returns
unfolding has
returns c = ap (λ (x : ℕ). eqb x 1) c.bit.ensures
