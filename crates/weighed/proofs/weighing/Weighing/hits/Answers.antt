use Rattle.std.proofs.Common.{arith}
use Rattle.std.proofs.Math.Logic.{∥∥₁_elim}
use Rattle.std.proofs.Props.{props}
use Rattle.sets.specs.Walks.{decisions}
use Rattle.sets.proofs.Listing.{sorted_decisions}
use Rattle.weighed.proofs.Reach.{total_none}
use Rattle.weighed.proofs.Deciding.{hits_by_ends}
use Rattle.weighed.proofs.weighing.Weighing.hits.Goals as goal

pub returns : goal.returns
returns g c =
    let s = g.M.Measure.scale in let q = c.args.self.now in
    ∥∥₁_elim q.compared_low (Prim.hlevel props)
    (λ l. ∥∥₁_elim q.compared_high (Prim.hlevel props)
    (λ h. hits_by_ends s g.met.M.Measure.lawful q.span.lower q.span.upper q.span.nested q.low q.high l h
    (decisions q.domain) q.row.now (sorted_decisions 64 q.domain) 0 s.nothing (total_none s) (omega (arith, q.few)) q.allowed c.is_enclosed.result c.is_enclosed.ensures))
