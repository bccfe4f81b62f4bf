use Rattle.std.proofs.Common.{rules}
use Rattle.std.proofs.lemmas.Iterator.{cases_from_all, YieldsList-from_slice}
use borrow.Author.Tests.{tests}
use Rattle.answer_sets.proofs.Each.{each_from_all}
use Rattle.answer_sets.specs.Naming.{Known, Unknown}
use Rattle.naming.proofs.rule.all_known.Goals as goal

pub returns : goal.returns
returns g c =
    let m = g.B.Bank.meaning c.args.bank.now in
    let body = c.args.body.now in
    each_from_all (Known m) (Unknown m) body c.all.result
    (cases_from_all _ _ _ (Known m) (Unknown m) c.all.ensures.ran (YieldsList-from_slice body cc)
    (λ x q k. search (rules, tests)) (λ x q k. search (rules, tests)))
