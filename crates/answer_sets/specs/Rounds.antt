-- The rounds of the operator as ranks.
use Rattle.std.specs.Prelude.{ℕ, ◌<◌, ◌≤◌, max, List, [], ◌∷◌}
use Rattle.banks.specs.Meaning.{Meaning}
use Rattle.sets.specs.Sets.{◌∈◌, ◌∉◌}
use Rattle.answer_sets.specs.Rules.{Way, Rule, rank, Bears}
use Rattle.answer_sets.specs.Published.{Program, Stage, positive, program}

-- i is the first number with d in the i-th set of the operator
pub record First (P : Program) (M d i : ℕ) : Type 0 where
  pub there : (R : ℕ) × Stage P M i R × (d ∈ R)
  pub not_before : (j R : ℕ) → j < i → Stage P M j R → d ∉ R

-- the ranks are the rounds: they bear M, each is the first set of the operator that has the decision, none is above 64, and no ranks
-- that bear M give a decision less
pub record Rounds (m : Meaning) (w : Way) (rules : List Rule) (M : ℕ) (ranks : List ℕ) : Type 0 where
  pub bear : Bears m w rules M ranks
  pub first : (d : ℕ) → d ∈ M → First (positive w (program m rules) M) M d (rank ranks d)
  pub depth : (d : ℕ) → rank ranks d ≤ 64
  pub least : (others : List ℕ) → Bears m w rules M others → (d : ℕ) → rank ranks d ≤ rank others d

-- the depth: the highest rank, or 0 where there is none
abbrev pub depth : List ℕ → ℕ
depth [] = 0
depth (r ∷ ranks) = max r (depth ranks)
