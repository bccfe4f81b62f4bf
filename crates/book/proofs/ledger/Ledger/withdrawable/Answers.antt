use Rattle.std.proofs.Common.{◌≡◌, ◌<◌, length, ap, ◌∙◌, arith}
use Rattle.std.proofs.lemmas.List.{length-map, nil_from_length}
use Rattle.std.proofs.lemmas.Bool.Decides.{not_from_Decides}
use Rattle.refusals.specs.declared.refusal.Refusal.TheVariants.{NoRule, RuleHeld}
use Rattle.rows.specs.Rows.{held}
use Rattle.rules.specs.Shapes.{rule_of, rules_of}
use Rattle.account.specs.Account.{withdraw}
use Rattle.book.specs.Counts.{counts, last_of}
use Rattle.book.specs.View.{view}
use Rattle.book.proofs.Pages.{held_last, last_held}
use Rattle.book.proofs.Passing.{passed_on}
use Rattle.book.specs.Ready.{Refuses}
use Rattle.std.proofs.lemmas.Result.{err_from_is_err_and}
use Rattle.book.proofs.Steps.{refuses, withdraw_none, withdraw_held, withdraw_ready}
use Rattle.book.proofs.ledger.Ledger.withdrawable.Goals as goal

pub returns-in_err-last : goal.returns-in_err-last
returns-in_err-last g c =
    let m = g.B.Bank.meaning c.args.self.now.bank in
    let a = view c.args.self.now in
    let rs = held c.args.self.now.rules in
    let same = length-map rs rule_of in
    let none : length rs ≡ 0 = c.in_err-last.ensures.1 in
    let p = err_from_is_err_and c.from_residual.result c.from_residual.ensures.1 in
    passed_on _ (Refuses m a withdraw) c.from_residual.result p.0 NoRule p.1 (p.2 ∙ c.in_err-last.ensures.0)
    (refuses m a withdraw NoRule (withdraw_none m a (nil_from_length (rules_of rs) (omega arith))))

pub returns-then-is_held : goal.returns-then-is_held
returns-then-is_held g c =
    let m = g.B.Bank.meaning c.args.self.now.bank in
    let a = view c.args.self.now in
    let rs = held c.args.self.now.rules in
    let ps = held c.args.self.now.pages in
    let same = length-map rs rule_of in
    let some = c.in_ok-last.ensures in
    let last : last_of (counts ps) ≡ length rs = c.is_held.ensures.0 c.if-is_held.true in
    refuses m a withdraw RuleHeld
    (withdraw_held m a (λ e. let n = ap length e in omega arith) (held_last ps rs c.args.self.now.level (omega arith) last))

pub returns : goal.returns
returns g c =
    let m = g.B.Bank.meaning c.args.self.now.bank in
    let a = view c.args.self.now in
    let rs = held c.args.self.now.rules in
    let ps = held c.args.self.now.pages in
    let same = length-map rs rule_of in
    let some = c.in_ok-last.ensures in
    let free = not_from_Decides c.is_held.result c.is_held.ensures c.if-is_held.false in
    let most = c.args.self.now.level.0 in
    let under : last_of (counts ps) < length rs = omega arith in (
      some,
      under,
      withdraw_ready m a c.in_ok-last.last (omega arith) (λ h. free (last_held ps rs c.args.self.now.level h)),
    )
