use Rattle.std.proofs.Common.{◌≡◌, take}
use Rattle.rows.specs.Rows.{held}
use Rattle.exported.specs.Numbered.{table}
use Rattle.exported.proofs.building.table_of.Given as goal

abbrev pub invariant-loop-c : goal.invariant-loop-c
invariant-loop-c l = held l.lines ≡ table (take l.c-index l.conditions)
