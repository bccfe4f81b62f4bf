-- Tables of listed conditions: when they are valid, and what they mean.
use Rattle.std.specs.Prelude.{◌≡◌, ℕ, ◌+◌, ◌<◌, ◌≤◌, true, false, List, length, get_or, take, drop, slice_index, slice_index_or}
use Rattle.banks.specs.Meaning.{Meaning}
use Rattle.banks.specs.Tables.{Few}
use Rattle.sets.specs.Lists.{member, Ascends}
use Rattle.sets.specs.Sets.{◌⊆◌, ◌∩◌, size, Between}
use Rattle.listed.specs.declared.condition.ListedCondition.{ListedCondition}

-- the sets of a condition, out of the row of all sets
abbrev pub row : ListedCondition → List ℕ → List ℕ
row c sets = take c.len (drop c.first sets)

-- each set of a row lies inside a domain
abbrev pub Inside : List ℕ → ℕ → Type 0
Inside sets domain = (i : ℕ) → i < length sets → get_or sets i 0 ⊆ domain

-- a domain of at most 12 decisions, a place inside the row of all sets, and there sets that ascend and lie inside the domain
abbrev pub Sound : ListedCondition → List ℕ → Type 0
Sound c sets = (size c.domain ≤ 12) × (c.first + c.len ≤ length sets) × Ascends (row c sets) × Inside (row c sets) c.domain

-- the condition of a number that the table does not have
abbrev pub no_condition : ListedCondition
no_condition = record { domain = 0; first = 0; len = 0 }

abbrev pub condition : List ListedCondition → ℕ → ListedCondition
condition cs k = slice_index_or cs k no_condition

-- each condition of a table is sound
abbrev pub AllSound : List ListedCondition → List ℕ → Type 0
AllSound cs sets = (k : ℕ) → k < length cs → Sound (condition cs k) sets

-- valid tables: at most 256 conditions, each of them sound
abbrev pub Valid : List ListedCondition → List ℕ → Type 0
Valid cs sets = Few cs × AllSound cs sets

-- condition k has its domain from the table, and the sets of its row as its family
abbrev pub listed : List ListedCondition → List ℕ → Meaning
listed cs sets = record {
  count = length cs;
  domain = λ k. (condition cs k).domain;
  family = λ k f. member f (row (condition cs k) sets);
}

-- the parts of validity, as the bank keeps them, beside `Few`
abbrev pub Narrow : List ListedCondition → Type 0
Narrow cs = (k : ℕ) → size (condition cs k).domain ≤ 12

abbrev pub Placed : List ListedCondition → List ℕ → Type 0
Placed cs sets = (k : ℕ) → (condition cs k).first + (condition cs k).len ≤ length sets

abbrev pub Ordered : List ListedCondition → List ℕ → Type 0
Ordered cs sets = (k : ℕ) → Ascends (row (condition cs k) sets)

-- a set that lies inside the domain is its own part there
abbrev pub Contained : List ListedCondition → List ℕ → Type 0
Contained cs sets =
    (k i : ℕ) → i < length (row (condition cs k) sets) → get_or (row (condition cs k) sets) i 0 ∩ (condition cs k).domain ≡ slice_index (row (condition cs k) sets) i

-- every set between two sets stands in the row; none does
abbrev pub AllIn : List ℕ → ℕ → ℕ → Type 0
AllIn sets lower upper = (f : ℕ) → Between lower upper f → member f sets ≡ true

abbrev pub NoneIn : List ℕ → ℕ → ℕ → Type 0
NoneIn sets lower upper = (f : ℕ) → Between lower upper f → member f sets ≡ false
