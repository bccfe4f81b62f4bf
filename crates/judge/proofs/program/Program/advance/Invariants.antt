use Rattle.std.proofs.Common.{ℕ, take}
use Rattle.std.specs.List.{All}
use Rattle.answer_sets.specs.Rules.{Carried}
use Rattle.rules.specs.Shapes.{way_of, entry_of, rules_of}
use Rattle.judge.specs.Reached.{GivenBy}
use Rattle.judge.proofs.program.Program.advance.Given as goal

abbrev pub invariant-rules : goal.invariant-rules
invariant-rules g l =
    (d : ℕ) → GivenBy (g.B.Bank.meaning l.self.bank.now) (way_of l.self.way) l.span.lower l.span.upper (rules_of (take l.rule-index l.self.rules.now)) d l.out

abbrev pub invariant-loop-e : goal.invariant-loop-e
invariant-loop-e g l = All (λ e. Carried (g.B.Bank.meaning l.self.bank.now) (way_of l.self.way) (entry_of e) l.span.lower l.span.upper) (take l.e-index l.body)
