use Rattle.std.proofs.Common.{rules, tests}
use Rattle.std.proofs.lemmas.Iterator.{YieldsList-from_slice, cases_from_all}
use Rattle.answer_sets.specs.Rules as meant
use Rattle.answer_sets.specs.Rules.{Keeps}
use Rattle.rules.specs.Shapes.{rule_of}
use Rattle.judge.proofs.Passing.{decides_all}
use Rattle.judge.proofs.keeping.keeps_all.Goals as goal

pub returns : goal.returns
returns g c =
    let P : meant.Rule → Type 0 = Keeps (g.B.Bank.meaning c.args.bank.now) c.args.set in
    decides_all rule_of P c.args.rules.now c.all.result
    (cases_from_all _ _ _ (λ r. P (rule_of r)) (λ r. P (rule_of r) → ⊥) c.all.ensures.ran (YieldsList-from_slice c.args.rules.now (cc))
    (λ x q k. search (rules, tests)) (λ x q k. search (rules, tests)))
