-- The least and the greatest total over the sets of a span, carried from decision to decision.
use Rattle.std.specs.Prelude.{ℕ, Bool, cond, List, [], ◌∷◌}
use Rattle.measures.specs.Scales.{Scale}
use Rattle.sets.specs.Sets.{has}
use Rattle.weighed.specs.declared.end.End.{End}
use Rattle.weighed.specs.declared.end.End.TheVariants.{Least, Greatest}

-- t is not further than u from the end
abbrev pub toward : {W T : Type 0} → End → Scale W T → T → T → Bool
toward Least s t u = s.le t u
toward Greatest s t u = s.le u t

-- the one of two totals that lies nearer the end
abbrev pub nearer : {T : Type 0} → (T → T → Bool) → T → T → T
nearer le t u = cond (le t u) t u

-- the weight of decision d laid on where every set of the span has it, not where none has it, and what is nearer where it is open
abbrev pub settled : {W T : Type 0} → Scale W T → (T → T → Bool) → ℕ → ℕ → ℕ → T → W → T
settled s le lower upper d t w = cond (has lower d) (s.lay t w) (cond (has upper d) (nearer le t (s.lay t w)) t)

abbrev pub extreme : {W T : Type 0} → Scale W T → (T → T → Bool) → ℕ → ℕ → List ℕ → List W → T → T
extreme s le lower upper [] ws t = t
extreme s le lower upper (d ∷ ds) [] t = t
extreme s le lower upper (d ∷ ds) (w ∷ ws) t = extreme s le lower upper ds ws (settled s le lower upper d t w)
