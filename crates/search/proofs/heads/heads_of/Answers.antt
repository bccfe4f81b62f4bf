use Rattle.std.proofs.Common.{◌≡◌, sym, ap, ◌∙◌, inl, inr, ⊎_elim}
use Rattle.std.proofs.lemmas.Bool.{both_ways}
use Rattle.sets.specs.Sets.{has}
use Rattle.sets.proofs.Members.{has_none}
use Rattle.answer_sets.specs.Rules as meant
use Rattle.answer_sets.specs.Rules.{decision}
use Rattle.judge.proofs.Growing.{any_more, more_any}
use Rattle.rules.specs.Shapes.{head_of, rule_of}
use Rattle.search.proofs.heads.heads_of.Goals as goal

pub loop-rule-init : goal.loop-rule-init
loop-rule-init c d = ((λ h. absurd (both_ways (has 0 d) (has_none d) h)), (λ h. absurd h))

pub loop-rule-preserved : goal.loop-rule-preserved
loop-rule-preserved c d =
    let xs = c.args.rules.now in let i = c.loop-rule.rule-index in let x = c.rule-item.result in
    let P : meant.Rule → Type 0 = λ r. r.head ≡ decision d in
    let same : head_of c.head.result ≡ head_of x.head = ap head_of c.head.ensures in (
      (λ h. more_any rule_of xs i x c.loop-rule-test.true c.rule-item.is P
          (⊎_elim (λ o. inl ((c.loop-rule.invariant d).0 o)) (λ e. inr (sym same ∙ e)) ((c.with_head-heads.ensures d).0 h))),
      (λ a. (c.with_head-heads.ensures d).1
          (⊎_elim (λ o. inl ((c.loop-rule.invariant d).1 o)) (λ e. inr (same ∙ e)) (any_more rule_of xs i x c.loop-rule-test.true c.rule-item.is P a))),
    )
