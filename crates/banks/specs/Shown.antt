-- How a condition stands, as it is printed.
use Rattle.std.specs.Prelude.{ℕ, List, codes}
use Rattle.banks.specs.declared.standing.Standing.{Standing}
use Rattle.banks.specs.declared.standing.Standing.TheVariants.{Met, Lost, Open}

abbrev pub standing_text : Standing → List ℕ
standing_text Met = codes "met whatever else is decided"
standing_text Lost = codes "can no longer be met"
standing_text Open = codes "open"
