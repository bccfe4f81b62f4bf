use Rattle.std.proofs.Common.{◌<◌, length, sym, subst, arith}
use Rattle.std.proofs.lemmas.List.{length-map}
use Rattle.std.proofs.lemmas.Result.{err_from_is_err_and}
use Rattle.std.proofs.lemmas.Bool.Decides.{not_from_Decides}
use Rattle.answer_sets.specs.Rules as meant
use Rattle.rows.specs.Rows.{held}
use Rattle.refusals.specs.declared.refusal.Refusal.TheVariants.{RulesFull}
use Rattle.rules.specs.Shapes.{rule_of}
use Rattle.account.specs.Account.{enter}
use Rattle.book.specs.Ready.{Accepts, Refuses, RulesWith}
use Rattle.book.specs.View.{view}
use Rattle.book.proofs.Passing.{passed_on}
use Rattle.book.proofs.Steps.{refuses, enter_full, enter_ready}
use Rattle.book.proofs.ledger.Ledger.enterable.Goals as goal

pub returns-in_err-rule : goal.returns-in_err-rule
returns-in_err-rule g c =
    let p = err_from_is_err_and c.from_residual.result c.from_residual.ensures.1 in
    let m = g.B.Bank.meaning c.args.self.now.bank in
    let a = view c.args.self.now in
    passed_on _ (Refuses m a (enter c.args.head c.args.body.now)) c.from_residual.result p.0 c.in_err-rule.field-0.0 p.1 p.2
    (refuses m a (enter c.args.head c.args.body.now) c.in_err-rule.field-0.0 (c.in_err-rule.ensures a))

pub returns-then-not-has_free_rule : goal.returns-then-not-has_free_rule
returns-then-not-has_free_rule g c =
    let m = g.B.Bank.meaning c.args.self.now.bank in
    let a = view c.args.self.now in
    let full = not_from_Decides c.has_free_rule.result c.has_free_rule.ensures c.if-not-has_free_rule.true in
    let same = length-map (held c.args.self.now.rules) rule_of in
    refuses m a (enter c.args.head c.args.body.now) RulesFull (enter_full m a c.args.head c.args.body.now c.in_ok-rule.ensures.0 (omega arith))

pub returns : goal.returns
returns g c =
    let m = g.B.Bank.meaning c.args.self.now.bank in
    let a = view c.args.self.now in
    let room : length (held c.args.self.now.rules) < 128 = c.has_free_rule.ensures.0 c.if-not-has_free_rule.false in
    let same = length-map (held c.args.self.now.rules) rule_of in
    let named = c.in_ok-rule.ensures in (
      room,
      subst (λ (x : meant.Rule). Accepts m a (enter c.args.head c.args.body.now) (length a.rules) (RulesWith a x)) (sym named.1)
          (enter_ready m a c.args.head c.args.body.now named.0 (omega arith)),
    )
