use Rattle.std.proofs.Common.{ℕ, List, [], ◌∷◌, sym, subst}
use Rattle.std.proofs.lemmas.List.{map-append}
use Rattle.std.proofs.lemmas.Iterator.Consumers.{YieldsList-end}
use Rattle.sets.specs.declared.decision.Decision.{Decision}
use Rattle.sets.proofs.Chains.{yields_decisions}
use Rattle.judge.proofs.Each.{StampedAt, stamped_push, stamped_all}
use Rattle.judge.proofs.ranks.Ranks.stamp.Goals as goal

pub loop-d-preserved : goal.loop-d-preserved
loop-d-preserved c =
    subst (λ (given : List ℕ). StampedAt c.args.rank c.args.self.now.bytes given c.give_first.new.self.bytes) (sym (map-append (λ (d : Decision). d.place) c.loop-d.yielded (c.in-Some.d ∷ [])))
    (stamped_push c.args.rank c.in-Some.d.place c.args.self.now.bytes _ c.loop-d.self.bytes c.give_first.new.self.bytes c.in-Some.d.small c.loop-d.self.all c.loop-d.invariant c.give_first.ensures)

pub returns : goal.returns
returns c =
    let end = YieldsList-end (yields_decisions c.into_iter-d-iterator.result c.args.set (cc)) c.loop-d.yielded c.loop-d.d-iterator c.loop-d.yielded_by c.next.result _ c.in-None.is c.next.ensures.steps in
    stamped_all c.args.set c.ranges.set.fits c.args.rank c.args.self.now.bytes c.loop-d.self.bytes (subst (λ (given : List ℕ). StampedAt c.args.rank c.args.self.now.bytes given c.loop-d.self.bytes) end.0 c.loop-d.invariant)
