-- Totals of the weights that the decisions of a set have.
use Rattle.std.specs.Prelude.{◌≡◌, ℕ, Bool, true, false, cond, ◌&&◌, List, [], ◌∷◌}
use Rattle.measures.specs.Scales.{Scale, laid}
use Rattle.sets.specs.Sets.{has, Between}

-- the weights of the decisions that f has, out of a list of decisions with one weight each
abbrev pub chosen : {W : Type 0} → List ℕ → List W → ℕ → List W
chosen [] ws f = []
chosen (d ∷ ds) [] f = []
chosen (d ∷ ds) (w ∷ ws) f = cond (has f d) (w ∷ chosen ds ws f) (chosen ds ws f)

-- a total lies between two others, both included
abbrev pub within : {W T : Type 0} → Scale W T → T → T → T → Bool
within s low high t = s.le low t && s.le t high

-- whatever set lies between lower and upper, t with its weights laid on is between low and high; whatever set, it is not
abbrev pub Hits : {W T : Type 0} → Scale W T → ℕ → ℕ → T → T → List ℕ → List W → T → Type 0
Hits s lower upper low high ds ws t = (f : ℕ) → Between lower upper f → within s low high (laid s t (chosen ds ws f)) ≡ true

abbrev pub Misses : {W T : Type 0} → Scale W T → ℕ → ℕ → T → T → List ℕ → List W → T → Type 0
Misses s lower upper low high ds ws t = (f : ℕ) → Between lower upper f → within s low high (laid s t (chosen ds ws f)) ≡ false
