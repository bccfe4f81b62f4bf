use Rattle.house.proofs.Constants.{taken}
use Rattle.house.proofs.bank.weighed_bank.Goals as goal

pub returns : goal.returns
returns g c = taken c.load.result _ _ _ _ c.load.ensures c.requires
