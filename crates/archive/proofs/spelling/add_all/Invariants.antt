use Rattle.std.proofs.Common.{◌≡◌, ◌++◌, take}
use Rattle.rows.specs.Rows.{held}
use Rattle.archive.proofs.spelling.add_all.Given as goal

abbrev pub invariant-loop-b : goal.invariant-loop-b
invariant-loop-b l = held l.line ≡ held l.initial.line ++ take l.b-index l.bytes
