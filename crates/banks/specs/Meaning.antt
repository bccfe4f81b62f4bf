-- What a bank of conditions means.
use Rattle.std.specs.Prelude.{◌≡◌, ℕ, ◌≤◌, Bool, true, false}
use Rattle.sets.specs.Sets.{◌⊆◌, ◌∩◌, size, Between}

-- how many conditions there are and, for each number, a domain and a test for the sets of its family
pub record Meaning : Type 0 where
  pub count : ℕ
  pub domain : ℕ → ℕ
  pub family : ℕ → ℕ → Bool

-- at most 32,767 conditions; domains of at most 12 decisions; families of subsets of the domain; and numbers from the
-- count on have the empty domain and the empty family
pub record Lawful (m : Meaning) : Type 0 where
  pub few : m.count ≤ 32767
  pub narrow : (k : ℕ) → size (m.domain k) ≤ 12
  pub inside : (k f : ℕ) → m.family k f ≡ true → f ⊆ m.domain k
  pub no_domain : (k : ℕ) → m.count ≤ k → m.domain k ≡ 0
  pub no_family : (k f : ℕ) → m.count ≤ k → m.family k f ≡ false

-- the family of condition k has all sets from the lower one to the upper one, as far as its domain sees them
abbrev pub Always : Meaning → ℕ → ℕ → ℕ → Type 0
Always m k lower upper = (f : ℕ) → Between (lower ∩ m.domain k) (upper ∩ m.domain k) f → m.family k f ≡ true

-- no such set is in it
abbrev pub Never : Meaning → ℕ → ℕ → ℕ → Type 0
Never m k lower upper = (f : ℕ) → Between (lower ∩ m.domain k) (upper ∩ m.domain k) f → m.family k f ≡ false

-- the meaning of a bank with no conditions
abbrev pub no_conditions : Meaning
no_conditions = record { count = 0; domain = λ k. 0; family = λ k f. false }
