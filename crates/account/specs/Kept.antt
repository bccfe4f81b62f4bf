-- What every account keeps, whatever calls led to it.
use Rattle.std.specs.Prelude.{◌≡◌, ◌≤◌, List, [], ◌∷◌, ◌++◌, length, take}
use Rattle.std.specs.List.{AllByRecursion}
use Rattle.banks.specs.Meaning.{Meaning}
use Rattle.answer_sets.specs.Rules.{Rule, Bears}
use Rattle.account.specs.Limits.{max_rules, max_pages}
use Rattle.account.specs.Account.{Page, Account, blank, Call, Answer, Step, Run}

-- the page's ranks bear its set, by its way and under its own rules
abbrev pub PageBorne : Meaning → Page → Type 0
PageBorne m p = Bears m p.way p.rules p.«set» p.ranks

-- the page's rules are the first of these
abbrev pub Front : List Rule → Page → Type 0
Front rules p = p.rules ≡ take (length p.rules) rules

-- the page has no more rules than the other
abbrev pub NoLonger : Page → Page → Type 0
NoLonger last p = length p.rules ≤ length last.rules

-- the account is within its limits, every page is borne and rests on the first of the rules, and no page has more rules than the last
pub record Kept (m : Meaning) (a : Account) : Type 0 where
  pub few_rules : length a.rules ≤ max_rules
  pub few_pages : length a.pages ≤ max_pages
  pub borne : AllByRecursion (PageBorne m) a.pages
  pub fronts : AllByRecursion (Front a.rules) a.pages
  pub longest : (before : List Page) (last : Page) → a.pages ≡ before ++ last ∷ [] → AllByRecursion (NoLonger last) a.pages

-- one call leaves it so
abbrev pub StepKept : Type 0
StepKept = (m : Meaning) (a : Account) (c : Call) (r : Answer) (z : Account) → Kept m a → Step m a c r z → Kept m z

-- and so it is after any calls on a book just opened
abbrev pub RunKept : Type 0
RunKept = (m : Meaning) (cs : List Call) (rs : List Answer) (z : Account) → Run m blank cs rs z → Kept m z
