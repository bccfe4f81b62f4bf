use Rattle.std.proofs.Common.{take}
use Rattle.rules.specs.Shapes.{rules_of}
use Rattle.search.specs.Search.{Heads}
use Rattle.search.proofs.heads.heads_of.Given as goal

abbrev pub invariant-loop-rule : goal.invariant-loop-rule
invariant-loop-rule l = Heads (rules_of (take l.rule-index l.rules)) l.heads
