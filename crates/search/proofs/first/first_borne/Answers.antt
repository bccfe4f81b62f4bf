use Rattle.std.proofs.Common.{ℕ, subst}
use Rattle.std.proofs.lemmas.Bool.Decides.{not_from_Decides}
use Rattle.answer_sets.specs.Rules.{Keeps, Borne}
use Rattle.judge.proofs.Passing.{fails}
use Rattle.rules.specs.Shapes.{way_of, rule_of, rules_of}
use Rattle.search.proofs.Ahead.{to_come_step, passed_more}
use Rattle.search.proofs.first.first_borne.Goals as goal

pub sets-preserved-then-not-keeps : goal.sets-preserved-then-not-keeps
sets-preserved-then-not-keeps g c =
    let m = g.B.Bank.meaning c.args.program.now.bank.now in
    let P : ℕ → Type 0 = λ n. Borne m (way_of c.args.program.now.way) (rules_of c.args.program.now.rules.now) n → ⊥ in
    let s = c.set-set.result in let x = c.rule-item.result in
    let broken = fails rule_of (Keeps m s) c.args.program.now.rules.now c.loop-rule.rule-index x x
    c.loop-rule-test.true c.rule-item.is (not_from_Decides c.keeps.result c.keeps.ensures c.if-not-keeps.true) in
    passed_more P (to_come_step c.next-ahead.result c.in-Some.is c.next-ahead.ensures) c.one_more-tried.ensures
    (subst P c.set-set.ensures (λ b. broken b.1.kept)) c.sets.invariant

pub sets-preserved : goal.sets-preserved
sets-preserved g c =
    let m = g.B.Bank.meaning c.args.program.now.bank.now in
    let P : ℕ → Type 0 = λ n. Borne m (way_of c.args.program.now.way) (rules_of c.args.program.now.rules.now) n → ⊥ in
    passed_more P (to_come_step c.next-ahead.result c.in-Some.is c.next-ahead.ensures) c.one_more-tried.ensures
    (subst P c.set-set.ensures (not_from_Decides c.is_borne.result c.is_borne.ensures c.if-is_borne.false)) c.sets.invariant
