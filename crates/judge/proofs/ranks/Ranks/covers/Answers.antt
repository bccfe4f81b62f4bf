use Rattle.std.proofs.Common.{◌≡◌, rules, tests}
use Rattle.answer_sets.specs.Rules.{rank}
use Rattle.sets.proofs.Chains.{all_of_decisions}
use Rattle.judge.proofs.ranks.Ranks.covers.Goals as goal

pub returns : goal.returns
returns c =
    all_of_decisions c.args.set _ _ (cc) c.ranges.set.fits _ c.all.result (λ d. rank c.args.self.now.bytes d ≡ 0 → ⊥) (λ x b q k. search (rules, tests)) c.all.ensures.ran
