-- The bytes by which a book's text names ways.
use Rattle.std.specs.Prelude.{◌≡◌, ℕ, Some, None, Option, Ok, Err, Result, ◌≢◌}
use Rattle.answer_sets.specs.Rules as meant
use Rattle.answer_sets.specs.Rules.{reduct, complement}
use Rattle.rules.specs.Shapes.{way_of}
use Rattle.rules.specs.declared.way.UnknownWay.{UnknownWay}
use Rattle.rules.specs.declared.way.Way.{Way}

-- the byte of a way
abbrev pub way_byte : meant.Way → ℕ
way_byte reduct = 1
way_byte complement = 2

-- the byte names this way, or none
abbrev pub NamesWay : ℕ → Option Way → Type 0
NamesWay b None = (w : meant.Way) → way_byte w ≢ b
NamesWay b (Some w) = way_byte (way_of w) ≡ b

-- the same of a result, which tells a byte that names none
abbrev pub WayOfByte : ℕ → Result Way UnknownWay → Type 0
WayOfByte b (Ok w) = NamesWay b (Some w)
WayOfByte b (Err e) = NamesWay b None × (e.0 ≡ b)
