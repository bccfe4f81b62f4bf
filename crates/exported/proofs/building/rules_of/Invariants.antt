use Rattle.std.proofs.Common.{◌≡◌, take}
use Rattle.rows.specs.Rows.{held}
use Rattle.rules.specs.Shapes as shapes
use Rattle.exported.specs.Numbered.{rules_numbered}
use Rattle.exported.proofs.building.rules_of.Given as goal

abbrev pub invariant-loop-n : goal.invariant-loop-n
invariant-loop-n g l = shapes.rules_of (held l.rules) ≡ rules_numbered (take l.n-index l.numbers)
