-- The account that a book stands for.
use Rattle.std.specs.Prelude.{ℕ, List, map, take, Ok, Err, Result}
use Rattle.answer_sets.specs.Rules as meant
use Rattle.banks.specs.declared.bank.Bank.{Ghosts}
use Rattle.refusals.specs.declared.refusal.Refusal.{Refusal}
use Rattle.refusals.specs.Numbers.{number, told}
use Rattle.rules.specs.Shapes.{way_of, rules_of}
use Rattle.rules.specs.declared.rule.Rule.{Rule}
use Rattle.rows.specs.Rows.{held}
use Rattle.account.specs.Account as plain
use Rattle.account.specs.Account.{Account, Answer, accepted, refused}
use Rattle.book.specs.declared.ledger.Ledger.{Ledger}
use Rattle.book.specs.declared.page.Page.{Page}

-- a page: its copy of the rules is the first of the book's
abbrev pub page_of : List meant.Rule → Page → plain.Page
page_of rules p = record { way = way_of p.way; «set» = p.«set»; ranks = p.ranks.bytes; rules = take p.rules rules }

abbrev pub account_of : List Rule → List Page → Account
account_of rules pages = record { rules = rules_of rules; pages = map (page_of (rules_of rules)) pages }

abbrev pub view : {B : Type 0} {b : Ghosts B} → Ledger B b → Account
view book = account_of (held book.rules) (held book.pages)

-- what a call answers: a number, or a refusal
abbrev pub answer_of : Result ℕ Refusal → Answer
answer_of (Ok n) = accepted n
answer_of (Err e) = refused (number e) (told e)
