-- What the book finds out before it changes anything.
use Rattle.std.specs.Prelude.{◌≡◌, ℕ, ◌≤◌, List, [], ◌∷◌, ◌++◌, take}
use Rattle.banks.specs.Meaning.{Meaning}
use Rattle.answer_sets.specs.Rules.{Rule, LowestBroken}
use Rattle.refusals.specs.declared.refusal.Refusal.{Refusal}
use Rattle.refusals.specs.Numbers.{number, told}
use Rattle.account.specs.Account.{Account, Call, accepted, refused, NotPaged, Step}

-- the call is refused so
abbrev pub Refuses : Meaning → Account → Call → Refusal → Type 0
Refuses m a c e = Step m a c (refused (number e) (told e)) a

-- the call is accepted with this answer, and may leave any account that is so
abbrev pub Accepts : Meaning → Account → Call → ℕ → (Account → Type 0) → Type 0
Accepts m a c number After = (n : ℕ) (z : Account) → n ≡ number → After z → Step m a c (accepted n) z

-- one value is told, the lowest rule that M breaks
abbrev pub TellsLowest : Meaning → Account → ℕ → List ℕ → Type 0
TellsLowest m a M [] = ⊥
TellsLowest m a M (i ∷ rest) = (rest ≡ []) × LowestBroken m a.rules M i

-- no page can be made of M, for this refusal first
abbrev pub NotPagedFirst : Meaning → Account → ℕ → ℕ → List ℕ → Type 0
NotPagedFirst m a M n told = NotPaged m a M n told × ((k : ℕ) (others : List ℕ) → NotPaged m a M k others → n ≤ k)

-- one rule more
abbrev pub RulesWith : Account → Rule → Account → Type 0
RulesWith a rule z = (z.rules ≡ a.rules ++ rule ∷ []) × (z.pages ≡ a.pages)

-- only the first n rules
abbrev pub RulesCut : Account → ℕ → Account → Type 0
RulesCut a n z = (z.rules ≡ take n a.rules) × (z.pages ≡ a.pages)
