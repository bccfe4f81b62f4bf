-- How a condition stands, given what is decided and what may still be decided.
use Rattle.std.specs.Prelude.{ℕ}
use Rattle.banks.specs.Meaning.{Meaning, Always, Never}
use Rattle.banks.specs.declared.standing.Standing.{Standing}
use Rattle.banks.specs.declared.standing.Standing.TheVariants.{Met, Lost, Open}

abbrev pub Stands : Meaning → ℕ → ℕ → ℕ → Standing → Type 0
Stands m k lower upper Met = Always m k lower upper
Stands m k lower upper Lost = Never m k lower upper
Stands m k lower upper Open = (Always m k lower upper → ⊥) × (Never m k lower upper → ⊥)
