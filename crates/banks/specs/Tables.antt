-- What the tables of every kind of condition keep.
use Rattle.std.specs.Prelude.{◌≤◌, List, length}

-- at most 256 conditions
abbrev pub Few : {C : Type 0} → List C → Type 0
Few cs = length cs ≤ 256
