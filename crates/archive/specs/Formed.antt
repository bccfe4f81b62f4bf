-- What is so of every book that is printed.
use Rattle.std.specs.Prelude.{ℕ, ◌^◌, ◌<◌, ◌≤◌, List, [], ◌∷◌, length}
use Rattle.std.specs.List.{AllByRecursion}
use Rattle.answer_sets.specs.Rules.{Head, decision, no_head, Rule, Ranked}
use Rattle.account.specs.Account.{Account, Page}
use Rattle.account.specs.Kept.{Front}
use Rattle.account.specs.Limits.{max_body, max_rules, max_pages}

-- a head is a decision, or none
abbrev pub HeadFormed : Head → Type 0
HeadFormed (decision d) = d < 64
HeadFormed no_head = Unit {0}

pub record RuleFormed (r : Rule) : Type 0 where
  pub head : HeadFormed r.head
  pub short : length r.body ≤ max_body
  pub named : AllByRecursion (λ e. e.condition < 32768) r.body

-- a page has ranks for its set, and rests on the first of the rules
pub record PageFormed (rules : List Rule) (p : Page) : Type 0 where
  pub small : p.«set» < 2 ^ 64
  pub ranked : Ranked p.«set» p.ranks
  pub front : Front rules p

-- no page rests on fewer rules than one before it
abbrev pub Rising : List Page → Type 0
Rising [] = Unit {0}
Rising (p ∷ pages) = AllByRecursion (λ q. length p.rules ≤ length q.rules) pages × Rising pages

-- a book over a bank with this many conditions
pub record Formed (count : ℕ) (a : Account) : Type 0 where
  pub counted : count < 2 ^ 16
  pub few_rules : length a.rules ≤ max_rules
  pub few_pages : length a.pages ≤ max_pages
  pub rules : AllByRecursion RuleFormed a.rules
  pub pages : AllByRecursion (PageFormed a.rules) a.pages
  pub rising : Rising a.pages
