use Rattle.std.proofs.Common.{ℕ, List, length, sym, ◌∙◌, subst, arith}
use Rattle.std.proofs.lemmas.List.{length-map}
use Rattle.std.proofs.lemmas.Result.{err_from_is_err_and, MatchResult-weaker}
use Rattle.std.proofs.lemmas.Bool.Decides.{not_from_Decides}
use Rattle.refusals.specs.Numbers.{number, told}
use Rattle.refusals.specs.declared.refusal.Refusal.TheVariants.{BadRanks, Unborne}
use Rattle.rows.specs.Rows.{held}
use Rattle.rules.specs.Shapes.{way_of}
use Rattle.account.specs.Account.{lodge, PagesWith}
use Rattle.book.specs.Ready.{Accepts, Refuses}
use Rattle.book.specs.View.{view, page_of}
use Rattle.book.proofs.Passing.{passed_on}
use Rattle.book.proofs.Steps.{refuses, lodge_unranked, lodge_not_paged, lodge_unborne, lodge_ready}
use Rattle.book.proofs.ledger.Ledger.lodgeable.Goals as goal

pub returns-in_err-fitting : goal.returns-in_err-fitting
returns-in_err-fitting g c =
    let m = g.B.Bank.meaning c.args.self.now.bank in
    let a = view c.args.self.now in
    let w = way_of c.args.way in
    let fails = c.in_err-fitting.ensures in
    let p = err_from_is_err_and c.from_residual.result c.from_residual.ensures.1 in
    passed_on _ (Refuses m a (lodge w c.args.set c.args.ranks.now)) c.from_residual.result p.0 BadRanks p.1 (p.2 ∙ fails.0)
    (refuses m a (lodge w c.args.set c.args.ranks.now) BadRanks (lodge_unranked m a c.args.set w c.args.ranks.now fails.1))

pub returns-in_err-pageable : goal.returns-in_err-pageable
returns-in_err-pageable g c =
    let m = g.B.Bank.meaning c.args.self.now.bank in
    let a = view c.args.self.now in
    let w = way_of c.args.way in
    let e = c.in_err-pageable.field-0.0 in
    let p = err_from_is_err_and c.from_residual-in_err-pageable.result c.from_residual-in_err-pageable.ensures.1 in
    let ranked = c.in_ok-fitting.ensures in
    passed_on _ (Refuses m a (lodge w c.args.set c.args.ranks.now)) c.from_residual-in_err-pageable.result p.0 e p.1 p.2
    (refuses m a (lodge w c.args.set c.args.ranks.now) e
    (lodge_not_paged m a c.args.set w c.args.ranks.now ranked (number e) (told e) c.in_err-pageable.ensures))

pub returns-then-not-bears : goal.returns-then-not-bears
returns-then-not-bears g c =
    let m = g.B.Bank.meaning c.args.self.now.bank in
    let a = view c.args.self.now in
    let w = way_of c.args.way in
    let ranked = c.in_ok-fitting.ensures in
    let free = c.in_ok-pageable.ensures.0 in
    let same = length-map (held c.args.self.now.pages) (page_of a.rules) in
    let fails = not_from_Decides c.bears.result c.bears.ensures c.if-not-bears.true in
    refuses m a (lodge w c.args.set c.args.ranks.now) Unborne
    (lodge_unborne m a c.args.set w c.args.ranks.now (omega arith) ranked c.in_ok-pageable.ensures.1 fails)

pub returns : goal.returns
returns g c =
    let m = g.B.Bank.meaning c.args.self.now.bank in
    let a = view c.args.self.now in
    let w = way_of c.args.way in
    let given = c.args.ranks.now in
    let free = c.in_ok-pageable.ensures.0 in
    let same = length-map (held c.args.self.now.pages) (page_of a.rules) in
    let bears = c.bears.ensures.0 c.if-not-bears.false in
    MatchResult-weaker c.copied.result c.copied.ensures
    (λ kept e. (
      free,
      subst (λ (ranks : List ℕ). Accepts m a (lodge w c.args.set given) (length a.pages) (PagesWith a w c.args.set ranks)) (sym e)
          (lodge_ready m a c.args.set w given (omega arith) bears),
    ))
    (λ e no. absurd (no.1 bears.ranked.places))
