-- The total that is carried through the decisions of a domain and a row of weights.
use Rattle.std.proofs.Common.{◌≡◌, ℕ, Bool, ◌⊎◌, List, [], ◌∷◌, length, refl, ⊎_elim, arith}
use Rattle.measures.specs.Scales.{Scale}
use Rattle.weighed.specs.Extremes.{extreme}

-- where no decision or no weight is left, it stays as it is
pub extreme_over : {W T : Type 0} (s : Scale W T) (le : T → T → Bool) (lo up : ℕ) (ds : List ℕ) (ws : List W) (t : T)
    → (ds ≡ []) ⊎ (length ws ≡ 0) → extreme s le lo up ds ws t ≡ t
extreme_over s le lo up [] ws t h = refl
extreme_over s le lo up (d ∷ ds) [] t h = refl
extreme_over s le lo up (d ∷ ds) (w ∷ ws) t h = absurd (⊎_elim (λ e. (cc)) (λ e. omega arith) h)
