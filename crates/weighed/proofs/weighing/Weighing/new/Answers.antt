use Rattle.std.proofs.Common.{sym, subst}
use Rattle.measures.specs.Scales.{Compared}
use Rattle.weighed.proofs.Deciding.{bound_compared}
use Rattle.weighed.proofs.weighing.Weighing.new.Goals as goal

pub invariant_of-result-clause-compared_low : goal.invariant_of-result-clause-compared_low
invariant_of-result-clause-compared_low g c =
    let s = g.M.Measure.scale in
    ∣ subst (Compared s) (sym c.bound_of.ensures) (bound_compared s c.args.c.now.low c.requires.2) ∣₁

pub invariant_of-result-clause-compared_high : goal.invariant_of-result-clause-compared_high
invariant_of-result-clause-compared_high g c =
    let s = g.M.Measure.scale in
    ∣ subst (Compared s) (sym c.bound_of-2.ensures) (bound_compared s c.args.c.now.high c.requires.3) ∣₁
