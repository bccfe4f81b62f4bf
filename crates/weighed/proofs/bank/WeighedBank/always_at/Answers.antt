use Rattle.std.proofs.Common.{true, false, rules}
use Rattle.std.proofs.lemmas.Bool.Decides.{Decides-at}
use Rattle.banks.proofs.PastCount.{past_always}
use Rattle.weighed.specs.Lawful.{valid_lawful}
use Rattle.weighed.specs.Tables.{weighed}
use Rattle.weighed.proofs.Picking.{same_question, on_both}
use Rattle.weighed.proofs.bank.WeighedBank.always_at.Goals as goal

pub returns : goal.returns
returns g c =
    let s = g.M.Measure.scale in let b = c.args.self.now in let k = c.args.k in let span = c.args.span in
    let m = weighed s b.conditions.now b.weights.now in
    on_both c.weighing.result _ _ _ _ c.weighing.ensures c.is_some_and.ensures
    (λ past no. Decides-at _ false no (past_always m (valid_lawful s b.conditions.now b.weights.now b.valid) k span.lower span.upper past))
    (λ q p h. same_question _ _ _ _ (m.family k) _ true c.is_some_and.result p.0 p.1 p.2 (search rules))
