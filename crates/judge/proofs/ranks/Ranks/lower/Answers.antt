use Rattle.std.proofs.Common.{ℕ, Bool, ltb, rules, tests, ◌∙◌}
use Rattle.std.proofs.lemmas.Iterator.Consumers.{YieldsList-from_filter, YieldsList-at, fold_from_yields_List}
use Rattle.sets.specs.Sets.{◌∪◌, single}
use Rattle.answer_sets.specs.Rules.{rank}
use Rattle.sets.proofs.Chains.{yields_decisions}
use Rattle.judge.proofs.Each.{collected_all}
use Rattle.judge.proofs.ranks.Ranks.lower.Goals as goal

pub returns : goal.returns
returns c =
    let test : ℕ → Bool = λ d. ltb (rank c.args.self.now.bytes d) (rank c.args.self.now.bytes c.args.b.place) in
    fold_from_yields_List _ (λ a d. a ∪ single d) 0 c.fold.result c.fold.ensures.ran
    (YieldsList-from_filter _ test (YieldsList-at c.filter.ensures.source (yields_decisions _ c.args.set (cc))) c.filter.ensures.closure (λ x r q k. search (rules, tests)))
    (λ a x b q k. search (rules, tests)) ∙ collected_all c.args.set test
