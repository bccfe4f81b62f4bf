-- The account is a function of what it is fed, and its pages are what they should be.
use Rattle.std.specs.Prelude.{◌≡◌, ℕ, ◌↔◌, List}
use Rattle.banks.specs.Meaning.{Meaning}
use Rattle.answer_sets.specs.Rules.{Way, Bears, Borne}
use Rattle.account.specs.Account.{Account, Call, file, lodge, Answer, Accepted, Free, Step, Run}

-- the same account and call allow only one answer and one account after
abbrev pub StepDetermined : Type 0
StepDetermined =
    (m : Meaning) (a : Account) (c : Call) (r s : Answer) (y z : Account) → Step m a c r y → Step m a c s z → (r ≡ s) × (y ≡ z)

-- and so do the same account and list of calls
abbrev pub RunDetermined : Type 0
RunDetermined =
    (m : Meaning) (a : Account) (cs : List Call) (rs ss : List Answer) (y z : Account) → Run m a cs rs y → Run m a cs ss z → (rs ≡ ss) × (y ≡ z)

-- file is accepted exactly where some ranks bear the set and a page is free
abbrev pub FileExact : Type 0
FileExact =
    (m : Meaning) (a : Account) (w : Way) (M : ℕ) (r : Answer) (z : Account) → Step m a (file w M) r z
    → Accepted r ↔ (Free a × Borne m w a.rules M)

-- lodge is accepted exactly where the given ranks bear the set and a page is free
abbrev pub LodgeExact : Type 0
LodgeExact =
    (m : Meaning) (a : Account) (w : Way) (M : ℕ) (ranks : List ℕ) (r : Answer) (z : Account) → Step m a (lodge w M ranks) r z
    → Accepted r ↔ (Free a × Bears m w a.rules M ranks)
