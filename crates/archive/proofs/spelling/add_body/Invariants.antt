use Rattle.std.proofs.Common.{◌≡◌, ◌++◌, map, take}
use Rattle.rows.specs.Rows.{held}
use Rattle.rules.specs.Shapes.{entry_of}
use Rattle.archive.specs.Text.{body_bytes}
use Rattle.archive.proofs.spelling.add_body.Given as goal

abbrev pub invariant-loop-e : goal.invariant-loop-e
invariant-loop-e l = held l.line ≡ held l.initial.line ++ body_bytes (map entry_of (take l.e-index l.body))
