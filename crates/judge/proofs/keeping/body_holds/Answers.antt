use Rattle.std.proofs.Common.{◌≡◌, true, rules, tests}
use Rattle.std.proofs.lemmas.Iterator.{YieldsList-from_slice, cases_from_all}
use Rattle.answer_sets.specs.Rules as meant
use Rattle.answer_sets.specs.Rules.{holds}
use Rattle.rules.specs.Shapes.{entry_of}
use Rattle.judge.proofs.Passing.{decides_all}
use Rattle.judge.proofs.keeping.body_holds.Goals as goal

pub returns : goal.returns
returns g c =
    let m = g.B.Bank.meaning c.args.bank.now in
    let P : meant.Entry → Type 0 = λ e. holds m e c.args.set ≡ true in
    decides_all entry_of P c.args.body.now c.all.result
    (cases_from_all _ _ _ (λ e. P (entry_of e)) (λ e. P (entry_of e) → ⊥) c.all.ensures.ran (YieldsList-from_slice c.args.body.now (cc))
    (λ x q k. search (rules, tests)) (λ x q k. search (rules, tests)))
