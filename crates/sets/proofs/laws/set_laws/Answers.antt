use Rattle.sets.proofs.Members.{extensional, order, members}
use Rattle.sets.proofs.Listing.{decisions_listed, between_listed}
use Rattle.sets.proofs.laws.set_laws.Goals as goal

pub returns : goal.returns
returns c = record { extensional = extensional; order = order; members = members; decisions = decisions_listed; between = between_listed }
