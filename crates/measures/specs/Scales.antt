-- What a measure is, and the laws that every measure owes.
use Rattle.std.specs.Prelude.{◌≡◌, ℕ, ◌≤◌, Bool, true, false, ◌⊎◌, List, [], ◌∷◌, length}
use Rattle.std.specs.List.{AllByRecursion}

-- figures W, as tables hold them, and totals T: `ok` figures may be weights, `fair` ones may be bounds; `nothing` is the total of no
-- weights, `lay t w` is t with the weight w laid on, and `le s t` says that s is not above t
pub record Scale (W T : Type 0) : Type 0 where
  pub ok : W → Bool
  pub fair : W → Bool
  pub bound : W → T
  pub nothing : T
  pub lay : T → W → T
  pub le : T → T → Bool

-- the total t with the weights of a list laid on, first to last
abbrev pub laid : {W T : Type 0} → Scale W T → T → List W → T
laid s t [] = t
laid s t (w ∷ ws) = laid s (s.lay t w) ws

-- each figure of a list may be a weight
abbrev pub Allowed : {W T : Type 0} → Scale W T → List W → Type 0
Allowed s ws = AllByRecursion (λ w. s.ok w ≡ true) ws

-- t is a total of at most n weights
abbrev pub Total : {W T : Type 0} → Scale W T → ℕ → T → Type 0
Total {W} s n t = (ws : List W) × (length ws ≤ n) × Allowed s ws × (t ≡ laid s s.nothing ws)

-- what is compared: totals of at most 12 weights, and bounds
abbrev pub Compared : {W T : Type 0} → Scale W T → T → Type 0
Compared {W} s t = Total s 12 t ⊎ ((b : W) × (s.fair b ≡ true) × (t ≡ s.bound b))

-- neither total is below the other; the two need not be the same
abbrev pub Equal : {W T : Type 0} → Scale W T → T → T → Type 0
Equal s t u = (s.le t u ≡ true) × (s.le u t ≡ true)

-- comparing is a total order; two weights laid on in either order give equal totals; and a total that is not above another is not
-- above it with the same weight laid on both
pub record Laws {W T : Type 0} (s : Scale W T) : Type 0 where
  pub either : (t u : T) → Compared s t → Compared s u → s.le t u ≡ false → s.le u t ≡ true
  pub transitive : (t u v : T) → Compared s t → Compared s u → Compared s v → s.le t u ≡ true → s.le u v ≡ true → s.le t v ≡ true
  pub exchange : (t : T) (v w : W) → Total s 10 t → s.ok v ≡ true → s.ok w ≡ true → Equal s (s.lay (s.lay t v) w) (s.lay (s.lay t w) v)
  pub monotone : (t u : T) (w : W) → Total s 11 t → Total s 11 u → s.ok w ≡ true → s.le t u ≡ true → s.le (s.lay t w) (s.lay u w) ≡ true
