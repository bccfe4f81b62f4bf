use Rattle.std.proofs.Common.{◌≡◌, true, List, map, Decides, Option, sym, subst}
use Rattle.std.specs.List.{AllByRecursion}
use Rattle.std.proofs.lemmas.Bool.{both_ways}
use Rattle.sets.specs.declared.decision.Decision.{Decision}
use Rattle.answer_sets.specs.Rules.{holds, HeadIn}
use Rattle.rules.specs.Shapes.{entry_of, head_of, rule_of}
use Rattle.rules.specs.declared.entry.Entry.{Entry}
use Rattle.judge.proofs.AtOneSet.{keeps_not}
use Rattle.judge.proofs.keeping.keeps.Goals as goal

pub returns-else-head_in : goal.returns-else-head_in
returns-else-head_in g c =
    let m = g.B.Bank.meaning c.args.bank.now in let r = c.args.rule.now in let M = c.args.set in
    keeps_not m M (rule_of r) c.body_fails.result
    (λ h. both_ways c.head_in.result c.if-head_in.false (c.head_in.ensures.1 (subst (λ (x : Option Decision). HeadIn (head_of x) M) (sym c.head.ensures) h)))
    (subst (λ (xs : List Entry). Decides c.body_fails.result (AllByRecursion (λ e. holds m e M ≡ true) (map entry_of xs) → ⊥)) c.body.ensures c.body_fails.ensures)
