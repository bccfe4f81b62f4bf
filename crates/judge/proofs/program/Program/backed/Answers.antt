use Rattle.std.proofs.Common.{◌≡◌, ℕ, Decides, ap, ◌∙◌, subst}
use Rattle.sets.specs.Sets.{◌∩◌}
use Rattle.sets.proofs.Members.{sub_and}
use Rattle.answer_sets.specs.Rules.{Any, Gives, below}
use Rattle.answer_sets.proofs.Bearing.{below_in}
use Rattle.rules.specs.Shapes.{way_of, rules_of}
use Rattle.judge.proofs.program.Program.backed.Goals as goal

pub returns : goal.returns
returns g c =
    let p = c.args.self.now in let m = g.B.Bank.meaning p.bank.now in let w = way_of p.way in let rs = rules_of p.rules.now in
    let M = c.args.set in let xs = c.args.ranks.now.bytes in let b = c.args.b.place in
    let lo : c.new.result.lower ≡ below M xs b = c.new.ensures.lower ∙ ap (λ (x : ℕ). x ∩ M) c.lower.ensures ∙ sub_and (below M xs b) M (below_in M xs b) in
    subst (λ (x : ℕ). Decides c.given.result (Any (Gives m w x M b) rs)) lo
    (subst (λ (x : ℕ). Decides c.given.result (Any (Gives m w c.new.result.lower x b) rs)) c.new.ensures.upper c.given.ensures)
