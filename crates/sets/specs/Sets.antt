-- Sets of decisions. Decisions are the numbers below 64; a set is the sum of 2 to the d over the decisions d that it has.
use Rattle.std.specs.Prelude.{◌≡◌, ℕ, zero, suc, ◌+◌, ◌*◌, ◌/◌, ◌%◌, ◌^◌, ◌≤◌, Bool, true, false, cond, ◌==◌, bit_and, bit_or, bit_xor, count_ones}

infix 50 ◌∈◌
infix 50 ◌∉◌
infix 50 ◌⊆◌
infixl 60 ◌∩◌
infixl 60 ◌∪◌
infixl 60 ◌∖◌
-- whether bit d of s is set
unfoldable pub has : ℕ → ℕ → Bool
has s d = s / 2 ^ d % 2 == 1

-- decision d is in s; it is not
abbrev pub ◌∈◌ : ℕ → ℕ → Type 0
d ∈ s = has s d ≡ true

abbrev pub ◌∉◌ : ℕ → ℕ → Type 0
d ∉ s = has s d ≡ false

-- each decision of s is in t
abbrev pub ◌⊆◌ : ℕ → ℕ → Type 0
s ⊆ t = (d : ℕ) → d ∈ s → d ∈ t

-- the same as a test: a set is a subset where it is its own part in the other
abbrev pub inside : ℕ → ℕ → Bool
inside s t = bit_and s t == s

-- the decisions in both, in either, in the first alone
abbrev pub ◌∩◌ : ℕ → ℕ → ℕ
s ∩ t = bit_and s t

abbrev pub ◌∪◌ : ℕ → ℕ → ℕ
s ∪ t = bit_or s t

abbrev pub ◌∖◌ : ℕ → ℕ → ℕ
s ∖ t = bit_xor s (bit_and s t)

-- the set of decision d alone
abbrev pub single : ℕ → ℕ
single d = 2 ^ d

-- how many decisions a set has
abbrev pub size : ℕ → ℕ
size s = count_ones s

-- d is in s, and no decision of s is lower
abbrev pub Lowest : ℕ → ℕ → Type 0
Lowest d s = (d ∈ s) × ((e : ℕ) → e ∈ s → d ≤ e)

-- d is in s, and no decision of s is higher
abbrev pub Highest : ℕ → ℕ → Type 0
Highest d s = (d ∈ s) × ((e : ℕ) → e ∈ s → e ≤ d)

-- s lies between two sets: it has each decision of the lower one, and none that the upper one lacks
abbrev pub Between : ℕ → ℕ → ℕ → Type 0
Between lower upper s = (lower ⊆ s) × (s ⊆ upper)

-- the set of those decisions below n that pass a test
unfoldable pub collect : ℕ → (ℕ → Bool) → ℕ
collect zero p = 0
collect (suc n) p = collect n (λ d. p (suc d)) * 2 + cond (p 0) 1 0
