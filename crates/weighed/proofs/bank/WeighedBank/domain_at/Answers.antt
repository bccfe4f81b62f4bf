use Rattle.std.proofs.Common.{rules}
use Rattle.weighed.proofs.Picking.{picked}
use Rattle.weighed.proofs.bank.WeighedBank.domain_at.Goals as goal

pub returns : goal.returns
returns g c = picked c.args.self.now.conditions.now c.args.k (λ x. x.domain) 0 _ _ _ c.at.ensures c.map_or.ensures (λ x q. search rules)
