-- What a bounded list holds.
use Rattle.std.specs.Prelude.{ℕ, List, take}
use Rattle.rows.specs.declared.row.Row.{Row}

-- the items of a bounded list: the filled front of its array
abbrev pub held : {T : Type 0} {N : ℕ} → Row T N → List T
held row = take row.len row.items
