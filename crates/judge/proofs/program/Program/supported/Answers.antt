use Rattle.std.proofs.Common.{ℕ, rules, tests}
use Rattle.answer_sets.specs.Rules.{Any, Gives, below}
use Rattle.rules.specs.Shapes.{way_of, rules_of}
use Rattle.sets.proofs.Chains.{all_of_decisions}
use Rattle.judge.proofs.program.Program.supported.Goals as goal

pub returns : goal.returns
returns g c =
    let p = c.args.self.now in let s = c.args.set in
    let P : ℕ → Type 0 = λ b. Any (Gives (g.B.Bank.meaning p.bank.now) (way_of p.way) (below s c.args.ranks.now.bytes b) s b) (rules_of p.rules.now) in
    all_of_decisions s _ _ (cc) c.ranges.set.fits _ c.all.result P (λ x b q k. search (rules, tests)) c.all.ensures.ran
