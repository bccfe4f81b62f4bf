use Rattle.std.proofs.Common.{◌≡◌, ℕ, ◌-◌, take, ap, ◌∙◌, arith}
use Rattle.std.proofs.lemmas.Result.{MatchResult-weaker}
use Rattle.refusals.specs.Numbers.{number, told}
use Rattle.account.specs.Account.{blank}
use Rattle.answer_sets.specs.Naming.{rule_named}
use Rattle.exported.proofs.Refusing.{other_than_none}
use Rattle.exported.proofs.building.rule_of.Goals as goal

pub returns : goal.returns
returns g c =
    let n = c.args.numbers.now in
    let whole : c.entries_of-len.result - 0 ≡ n.len = omega arith in
    MatchResult-weaker c.rule_named.result c.rule_named.ensures (λ x h. h.1 ∙ ap (λ (k : ℕ). rule_named n.head (take k n.body)) whole)
    (λ e h. other_than_none (g.B.Bank.meaning c.args.bank.now) blank _ _ (number e) (told e) (h blank).0)
