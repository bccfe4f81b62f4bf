use Rattle.std.proofs.Common.{false, rules}
use Rattle.weighed.specs.Lawful.{valid_lawful}
use Rattle.weighed.specs.Tables.{weighed}
use Rattle.weighed.proofs.Picking.{same_question, on_both}
use Rattle.weighed.proofs.bank.WeighedBank.never_at.Goals as goal

pub returns : goal.returns
returns g c =
    let s = g.M.Measure.scale in let b = c.args.self.now in let k = c.args.k in
    let m = weighed s b.conditions.now b.weights.now in
    on_both c.weighing.result _ _ _ _ c.weighing.ensures c.is_none_or.ensures
    (λ past yes. ((λ _ f i. (valid_lawful s b.conditions.now b.weights.now b.valid).no_family k f past), (λ _. yes)))
    (λ q p h. same_question _ _ _ _ (m.family k) _ false c.is_none_or.result p.0 p.1 p.2 (search (rules, h)))
