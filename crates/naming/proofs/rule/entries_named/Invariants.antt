use Rattle.std.proofs.Common.{◌≡◌, map, take}
use Rattle.rows.specs.Rows.{held}
use Rattle.rules.specs.Shapes.{entry_of}
use Rattle.answer_sets.specs.Naming.{entry_named}
use Rattle.naming.proofs.rule.entries_named.Given as goal

abbrev pub invariant-loop-number : goal.invariant-loop-number
invariant-loop-number l = map entry_of (held l.entries) ≡ map entry_named (take l.number-index l.body)
