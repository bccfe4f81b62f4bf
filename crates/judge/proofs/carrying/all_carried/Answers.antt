use Rattle.std.proofs.Common.{rules, tests}
use Rattle.std.proofs.lemmas.Iterator.{YieldsList-from_slice, cases_from_all}
use Rattle.answer_sets.specs.Rules as meant
use Rattle.answer_sets.specs.Rules.{Carried}
use Rattle.rules.specs.Shapes.{entry_of, way_of}
use Rattle.judge.proofs.Passing.{decides_all}
use Rattle.judge.proofs.carrying.all_carried.Goals as goal

pub returns : goal.returns
returns g c =
    let P : meant.Entry → Type 0 = λ e. Carried (g.B.Bank.meaning c.args.bank.now) (way_of c.args.way) e c.args.span.lower c.args.span.upper in
    decides_all entry_of P c.args.body.now c.all.result
    (cases_from_all _ _ _ (λ e. P (entry_of e)) (λ e. P (entry_of e) → ⊥) c.all.ensures.ran (YieldsList-from_slice c.args.body.now (cc))
    (λ x q k. search (rules, tests)) (λ x q k. search (rules, tests)))
