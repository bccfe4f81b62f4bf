-- One round of the operator, and the ranks that rounds give.
use Rattle.std.specs.Prelude.{◌≡◌, ℕ, ◌<◌, ◌≤◌, Bool, ◌⊎◌, ◌↔◌, List}
use Rattle.banks.specs.Meaning.{Meaning}
use Rattle.sets.specs.Sets.{◌∈◌, ◌∉◌}
use Rattle.answer_sets.specs.Rules.{Any, Way, Rule, Gives}
use Rattle.answer_sets.specs.Tests.{round}

-- d is in r exactly where it was in the lower set or some rule gives it over the span
abbrev pub GivenBy : Meaning → Way → ℕ → ℕ → List Rule → ℕ → ℕ → Type 0
GivenBy m w lower upper rules d r = (d ∈ r) ↔ ((d ∈ lower) ⊎ Any (Gives m w lower upper d) rules)

-- r has the decisions of out, and what one rule gives over the span
abbrev pub Grown : Meaning → Way → ℕ → ℕ → Rule → ℕ → ℕ → Type 0
Grown m w lower upper rule out r = (d : ℕ) → (d ∈ r) ↔ ((d ∈ out) ⊎ Gives m w lower upper d rule)

-- after i rounds of a test: v is the first round that has d, or 0 where none up to the i-th has
abbrev pub Stamped : (ℕ → ℕ → Bool) → ℕ → ℕ → ℕ → Type 0
Stamped der i d v =
    ((v ≡ 0) × ((j : ℕ) → j ≤ i → d ∉ round der j)) ⊎ ((v ≤ i) × (d ∈ round der v) × ((j : ℕ) → j < v → d ∉ round der j))
