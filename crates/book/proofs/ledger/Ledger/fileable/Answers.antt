use Rattle.std.proofs.Common.{◌∙◌, arith}
use Rattle.std.proofs.lemmas.List.{length-map}
use Rattle.std.proofs.lemmas.Result.{err_from_is_err_and}
use Rattle.refusals.specs.Numbers.{number, told}
use Rattle.refusals.specs.declared.refusal.Refusal.TheVariants.{Unborne}
use Rattle.rows.specs.Rows.{held}
use Rattle.rules.specs.Shapes.{way_of}
use Rattle.account.specs.Account.{file}
use Rattle.book.specs.Ready.{Refuses}
use Rattle.book.specs.View.{view, page_of}
use Rattle.book.proofs.Passing.{passed_on}
use Rattle.book.proofs.Steps.{refuses, file_not_paged, file_unborne, file_ready}
use Rattle.book.proofs.ledger.Ledger.fileable.Goals as goal

pub returns-in_err-pageable : goal.returns-in_err-pageable
returns-in_err-pageable g c =
    let m = g.B.Bank.meaning c.args.self.now.bank in
    let a = view c.args.self.now in
    let w = way_of c.args.way in
    let e = c.in_err-pageable.field-0.0 in
    let p = err_from_is_err_and c.from_residual.result c.from_residual.ensures.1 in
    passed_on _ (Refuses m a (file w c.args.set)) c.from_residual.result p.0 e p.1 p.2
    (refuses m a (file w c.args.set) e (file_not_paged m a c.args.set w (number e) (told e) c.in_err-pageable.ensures))

pub returns-in_err-ranks : goal.returns-in_err-ranks
returns-in_err-ranks g c =
    let m = g.B.Bank.meaning c.args.self.now.bank in
    let a = view c.args.self.now in
    let w = way_of c.args.way in
    let free = c.in_ok-pageable.ensures.0 in
    let same = length-map (held c.args.self.now.pages) (page_of a.rules) in
    let fails = c.in_err-ranks.ensures in
    let p = err_from_is_err_and c.from_residual-in_err-ranks.result c.from_residual-in_err-ranks.ensures.1 in
    passed_on _ (Refuses m a (file w c.args.set)) c.from_residual-in_err-ranks.result p.0 Unborne p.1 (p.2 ∙ fails.0)
    (refuses m a (file w c.args.set) Unborne (file_unborne m a c.args.set w (omega arith) c.in_ok-pageable.ensures.1 fails.1))

pub returns : goal.returns
returns g c =
    let m = g.B.Bank.meaning c.args.self.now.bank in
    let a = view c.args.self.now in
    let w = way_of c.args.way in
    let free = c.in_ok-pageable.ensures.0 in
    let same = length-map (held c.args.self.now.pages) (page_of a.rules) in
    (free, file_ready m a c.args.set w (omega arith) c.in_ok-ranks.ranks.bytes c.in_ok-ranks.ensures)
