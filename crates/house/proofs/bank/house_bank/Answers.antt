use Rattle.std.proofs.Common.{◌∙◌, ap₂}
use Rattle.banks.specs.Beside.{beside}
use Rattle.house.proofs.Constants.{kilos_valid, kilos_mean, grades_valid, grades_mean, parts_mean}
use Rattle.house.proofs.bank.house_bank.Goals as goal

pub weighed_bank-kilos-requires : goal.weighed_bank-kilos-requires
weighed_bank-kilos-requires c = kilos_valid

pub weighed_bank-grades-requires : goal.weighed_bank-grades-requires
weighed_bank-grades-requires c = grades_valid

pub returns : goal.returns
returns c =
    ap₂ beside c.listed_bank-listed.ensures (ap₂ beside (c.weighed_bank-kilos.ensures ∙ kilos_mean) (c.weighed_bank-grades.ensures ∙ grades_mean)) ∙ parts_mean
