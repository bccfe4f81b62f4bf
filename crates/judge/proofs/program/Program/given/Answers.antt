use Rattle.std.proofs.Common.{rules, tests}
use Rattle.std.proofs.lemmas.Iterator.{YieldsList-from_slice, cases_from_any}
use Rattle.answer_sets.specs.Rules as meant
use Rattle.answer_sets.specs.Rules.{Gives}
use Rattle.rules.specs.Shapes.{way_of, rule_of}
use Rattle.judge.proofs.Passing.{decides_any}
use Rattle.judge.proofs.program.Program.given.Goals as goal

pub returns : goal.returns
returns g c =
    let p = c.args.self.now in let s = c.args.span in
    let P : meant.Rule → Type 0 = Gives (g.B.Bank.meaning p.bank.now) (way_of p.way) s.lower s.upper c.args.b.place in
    decides_any rule_of P p.rules.now c.any.result
    (cases_from_any _ _ _ (λ r. P (rule_of r)) (λ r. P (rule_of r) → ⊥) c.any.ensures.ran (YieldsList-from_slice p.rules.now (cc))
    (λ x q k. search (rules, tests)) (λ x q k. search (rules, tests)))
