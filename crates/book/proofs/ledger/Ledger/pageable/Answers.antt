use Rattle.std.proofs.Common.{◌≡◌, ℕ, ◌<◌, List, [], ◌∷◌, length, Ok, Err, Result, sym, subst, arith, MatchResult}
use Rattle.std.proofs.lemmas.List.{length-map}
use Rattle.std.proofs.lemmas.Bool.Decides.{not_from_Decides}
use Rattle.std.specs.List.{AllByRecursion}
use Rattle.banks.specs.Meaning.{Meaning}
use Rattle.answer_sets.specs.Rules.{Keeps}
use Rattle.refusals.specs.Numbers.{number, told}
use Rattle.refusals.specs.declared.refusal.Refusal.{Refusal}
use Rattle.rows.specs.Rows.{held}
use Rattle.rules.specs.Shapes.{rules_of}
use Rattle.account.specs.Account.{Account}
use Rattle.account.specs.Limits.{max_pages}
use Rattle.book.specs.Ready.{NotPagedFirst, TellsLowest}
use Rattle.book.specs.View.{view, page_of}
use Rattle.book.proofs.Steps.{no_page, broken}
use Rattle.book.proofs.ledger.Ledger.pageable.Goals as goal

-- what is said of the rules, with what is known of the pages
either : (m : Meaning) (a : Account) (M : ℕ) (X : Type 0) → X → length a.pages < max_pages → (r : Result (Unit {0}) Refusal)
    → MatchResult r (λ _. AllByRecursion (Keeps m M) a.rules) (λ e. (number e ≡ 23) × TellsLowest m a M (told e))
    → MatchResult r (λ _. X × AllByRecursion (Keeps m M) a.rules) (λ e. NotPagedFirst m a M (number e) (told e))
either m a M X x free (Ok u) c = (x, c)
either m a M X x free (Err e) c = subst (λ (n : ℕ). NotPagedFirst m a M n (told e)) (sym c.0) (one (told e) c.1)
  where
    one : (values : List ℕ) → TellsLowest m a M values → NotPagedFirst m a M 23 values
    one [] h = absurd h
    one (i ∷ rest) h = subst (λ (l : List ℕ). NotPagedFirst m a M 23 (i ∷ l)) (sym h.0) (broken m a M free i h.1)

pub returns-then-not-has_free_page : goal.returns-then-not-has_free_page
returns-then-not-has_free_page g c =
    let m = g.B.Bank.meaning c.args.self.now.bank in
    let ps = held c.args.self.now.pages in
    let full = not_from_Decides c.has_free_page.result c.has_free_page.ensures c.if-not-has_free_page.true in
    let same = length-map ps (page_of (rules_of (held c.args.self.now.rules))) in
    no_page m (view c.args.self.now) c.args.set (omega arith)

pub returns : goal.returns
returns g c =
    let m = g.B.Bank.meaning c.args.self.now.bank in
    let free : length (held c.args.self.now.pages) < 64 = c.has_free_page.ensures.0 c.if-not-has_free_page.false in
    let same = length-map (held c.args.self.now.pages) (page_of (rules_of (held c.args.self.now.rules))) in
    either m (view c.args.self.now) c.args.set (length (held c.args.self.now.pages) < 64) free (omega arith) c.unbroken.result c.unbroken.ensures
