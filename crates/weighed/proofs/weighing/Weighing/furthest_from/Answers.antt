use Rattle.std.proofs.Common.{sym, ◌∙◌, inl, inr, ⊎_elim}
use Rattle.std.specs.Slice.Iter.{iter_rest}
use Rattle.sets.specs.Walks.{decisions}
use Rattle.weighed.specs.Extremes.{toward}
use Rattle.weighed.proofs.Carrying.{extreme_over}
use Rattle.weighed.proofs.weighing.Weighing.furthest_from.Goals as goal

pub returns : goal.returns
returns g c =
    let s = g.M.Measure.scale in let span = c.args.self.now.span in
    sym (extreme_over s (toward c.args.end s) span.lower span.upper (decisions c.loop-d.d-iterator.a.rest) (iter_rest c.loop-d.d-iterator.b) c.loop-d.t
    (⊎_elim (λ h. inl h.1.0) (λ h. inr h.1.0) c.in-None.ensures.steps))
    ∙ c.loop-d.invariant.2
