use Rattle.sets.proofs.Members.{sub_and}
use Rattle.listed.proofs.Soundness.{sound_at}
use Rattle.listed.proofs.bank.ListedBank.load.Goals as goal

pub invariant_of-self : goal.invariant_of-self
invariant_of-self c =
    let v = c.valid.ensures.0 c.if-not-valid.false in
    let s = sound_at c.args.conditions.now c.args.sets.now v in
    record {
      few = v.0;
      narrow = λ k. (s k).0;
      placed = λ k. (s k).1;
      ordered = λ k. (s k).2;
      contained = λ k i l. sub_and _ _ ((s k).3 i l);
    }
