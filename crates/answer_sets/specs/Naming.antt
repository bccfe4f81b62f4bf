-- The numbers by which a call names a rule.
use Rattle.std.specs.Prelude.{◌≡◌, ℕ, ◌+◌, ◌%◌, ◌<◌, ◌≤◌, cond, not, ◌⊎◌, List, map, ◌==◌, nat_lt}
use Rattle.banks.specs.Meaning.{Meaning}
use Rattle.answer_sets.specs.Rules.{Head, decision, no_head, Entry, Rule}

-- a number names a head: a decision by its own number, or no head by 255
abbrev pub NamesHead : ℕ → Type 0
NamesHead h = (h < 64) ⊎ (h ≡ 255)

abbrev pub head_named : ℕ → Head
head_named h = cond (h == 255) no_head (decision h)

-- the number by which a head is named
abbrev pub head_number : Head → ℕ
head_number (decision d) = d
head_number no_head = 255

-- an entry's number is its condition's, and 0x8000 more where "not" stands before it
abbrev pub entry_named : ℕ → Entry
entry_named n = record { condition = n % 32768; negated = not (nat_lt n 32768) }

-- the number of an entry: its condition's, which is below 0x8000, and 0x8000 more where "not" stands before it
abbrev pub entry_number : Entry → ℕ
entry_number e = e.condition % 32768 + cond e.negated 32768 0

-- an entry's condition is one of the bank's; it is not
abbrev pub Known : Meaning → ℕ → Type 0
Known m n = (entry_named n).condition < m.count

abbrev pub Unknown : Meaning → ℕ → Type 0
Unknown m n = m.count ≤ (entry_named n).condition

abbrev pub rule_named : ℕ → List ℕ → Rule
rule_named h body = record { head = head_named h; body = map entry_named body }
