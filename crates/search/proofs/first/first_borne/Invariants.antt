use Rattle.std.proofs.Common.{length}
use Rattle.answer_sets.specs.Rules.{Borne}
use Rattle.rules.specs.Shapes.{way_of, rules_of}
use Rattle.sets.specs.Coming.{to_come}
use Rattle.search.proofs.Ahead.{Passed}
use Rattle.search.proofs.first.first_borne.Given as goal

abbrev pub invariant-sets : goal.invariant-sets
invariant-sets g l = Passed (λ n. Borne (g.B.Bank.meaning l.program.bank.now) (way_of l.program.way) (rules_of l.program.rules.now) n → ⊥) (to_come l.initial.ahead) (to_come l.ahead) l.tried

abbrev pub decreases-sets : goal.decreases-sets
decreases-sets g l = length (to_come l.ahead)
