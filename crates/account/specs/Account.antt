-- The plain account of a book: it is fed the calls and the meaning of the bank, and nothing out of the book.
use Rattle.std.specs.Prelude.{◌≡◌, ℕ, ◌<◌, ◌≤◌, ◌⊎◌, List, [], ◌∷◌, ◌++◌, length}
use Rattle.banks.specs.Meaning.{Meaning}
use Rattle.answer_sets.specs.Rules.{Any, Way, Rule, Ranked, Bears, Borne, LowestBroken}
use Rattle.answer_sets.specs.Rounds.{Rounds}
use Rattle.account.specs.Limits.{max_body, max_rules, max_pages}
use Rattle.answer_sets.specs.Naming.{NamesHead, Unknown, rule_named}

-- a page: a set, the way by which it was filed, its ranks, and the rules that stood at the time, copied
pub record Page : Type 0 where
  pub way : Way
  pub «set» : ℕ
  pub ranks : List ℕ
  pub rules : List Rule

pub record Account : Type 0 where
  pub rules : List Rule
  pub pages : List Page

-- the account of a book just opened
abbrev pub blank : Account
blank = record { rules = []; pages = [] }

-- a call that may change a book, with what it is handed: enter has a head and a body by their numbers
pub data Call : Type 0 where
  enter : ℕ → List ℕ → Call
  withdraw : Call
  file : Way → ℕ → Call
  lodge : Way → ℕ → List ℕ → Call

-- a call is accepted and answers a number, or is refused by a number, with values told
pub data Answer : Type 0 where
  accepted : ℕ → Answer
  refused : ℕ → List ℕ → Answer

abbrev pub Accepted : Answer → Type 0
Accepted (accepted n) = Unit {0}
Accepted (refused n told) = ⊥

-- a page is free
abbrev pub Free : Account → Type 0
Free a = length a.pages < max_pages

-- (n, told) is refusal k with these values, on a ground
abbrev pub RefusalOn : ℕ → List ℕ → Type 0 → ℕ → List ℕ → Type 0
RefusalOn k values Ground n told = (n ≡ k) × (told ≡ values) × Ground

-- the last page rests on all the rules that stand
abbrev pub Held : Account → Type 0
Held a = (before : List Page) × (last : Page) × (a.pages ≡ before ++ last ∷ []) × (length last.rules ≡ length a.rules)

-- why no set like M can be paged, whatever its ranks: no page is free, or M breaks a rule
abbrev pub NotPaged : Meaning → Account → ℕ → ℕ → List ℕ → Type 0
NotPaged m a M n told =
    RefusalOn 22 [] (max_pages ≤ length a.pages) n told
    ⊎ ((i : ℕ) × RefusalOn 23 (i ∷ []) (LowestBroken m a.rules M i) n told)

-- refusal n, with these values told, fits the call
abbrev pub Fits : Meaning → Account → Call → ℕ → List ℕ → Type 0
Fits m a (enter h body) n told =
    RefusalOn 11 [] (NamesHead h → ⊥) n told
    ⊎ (RefusalOn 12 [] (max_body < length body) n told
    ⊎ (RefusalOn 13 [] (Any (Unknown m) body) n told
    ⊎ RefusalOn 21 [] (max_rules ≤ length a.rules) n told))
Fits m a withdraw n told =
    RefusalOn 25 [] (a.rules ≡ []) n told
    ⊎ RefusalOn 26 [] (Held a) n told
Fits m a (file w M) n told =
    NotPaged m a M n told
    ⊎ RefusalOn 24 [] (Borne m w a.rules M → ⊥) n told
Fits m a (lodge w M ranks) n told =
    RefusalOn 15 [] (Ranked M ranks → ⊥) n told
    ⊎ (NotPaged m a M n told
    ⊎ RefusalOn 24 [] (Bears m w a.rules M ranks → ⊥) n told)

-- the page that is added last
abbrev pub PagesWith : Account → Way → ℕ → List ℕ → Account → Type 0
PagesWith a w M ranks z = (z.rules ≡ a.rules) × (z.pages ≡ a.pages ++ record { way = w; «set» = M; ranks = ranks; rules = a.rules } ∷ [])

-- what an accepted call answers, and the account that it leaves
abbrev pub Done : Meaning → Account → Call → ℕ → Account → Type 0
Done m a (enter h body) n z = (n ≡ length a.rules) × (z.rules ≡ a.rules ++ rule_named h body ∷ []) × (z.pages ≡ a.pages)
Done m a withdraw n z = ((last : Rule) × (a.rules ≡ z.rules ++ last ∷ [])) × (n ≡ length z.rules) × (z.pages ≡ a.pages)
Done m a (file w M) n z = (n ≡ length a.pages) × ((ranks : List ℕ) × Rounds m w a.rules M ranks × PagesWith a w M ranks z)
Done m a (lodge w M ranks) n z = (n ≡ length a.pages) × Bears m w a.rules M ranks × PagesWith a w M ranks z

-- refusal n fits, and none with a smaller number does
abbrev pub FitsFirst : Meaning → Account → Call → ℕ → List ℕ → Type 0
FitsFirst m a c n told = Fits m a c n told × ((k : ℕ) (others : List ℕ) → Fits m a c k others → n ≤ k)

-- one call: where no refusal fits it is carried out; else the smallest number that fits is given, and nothing changes
unfoldable pub Step : Meaning → Account → Call → Answer → Account → Type 0
Step m a c (accepted n) z = ((k : ℕ) (told : List ℕ) → Fits m a c k told → ⊥) × Done m a c n z
Step m a c (refused n told) z = FitsFirst m a c n told × (z ≡ a)

-- calls one after another, each with its answer
abbrev pub Run : Meaning → Account → List Call → List Answer → Account → Type 0
Run m a [] [] z = z ≡ a
Run m a [] (r ∷ rs) z = ⊥
Run m a (c ∷ cs) [] z = ⊥
Run m a (c ∷ cs) (r ∷ rs) z = (b : Account) × Step m a c r b × Run m b cs rs z
