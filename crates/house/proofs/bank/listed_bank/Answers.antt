use Rattle.std.proofs.Common.{◌∙◌}
use Rattle.house.proofs.Constants.{taken, lines_valid, lines_mean}
use Rattle.house.proofs.bank.listed_bank.Goals as goal

pub returns : goal.returns
returns c = taken c.load.result _ _ _ _ c.load.ensures lines_valid ∙ lines_mean
