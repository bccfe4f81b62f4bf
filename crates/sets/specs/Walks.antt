-- The decisions of a set, and the sets between two sets, each as an ascending list.
use Rattle.std.specs.Prelude.{ℕ, zero, suc, ◌+◌, ◌^◌, ◌<◌, ◌≤◌, cond, List, [], ◌∷◌, ◌++◌, map, filter, nat_le}
use Rattle.sets.specs.Sets.{has, Between}

-- the decisions of s below n, lowest first
unfoldable pub decisions_below : ℕ → ℕ → List ℕ
decisions_below zero s = []
decisions_below (suc n) s = decisions_below n s ++ cond (has s n) (n ∷ []) []

-- the decisions of s, lowest first
abbrev pub decisions : ℕ → List ℕ
decisions s = decisions_below 64 s

-- the sets between two sets, as far as decisions below n go: those without decision n come before those with it
unfoldable pub between_below : ℕ → ℕ → ℕ → List ℕ
between_below zero lower upper = 0 ∷ []
between_below (suc n) lower upper =
    cond (has lower n) [] (between_below n lower upper) ++ cond (has upper n) (map (λ s. s + 2 ^ n) (between_below n lower upper)) []

-- the sets between two sets, ascending
abbrev pub sets_between : ℕ → ℕ → List ℕ
sets_between lower upper = between_below 64 lower upper

-- those of them that are not below a first one
abbrev pub sets_from : ℕ → ℕ → ℕ → List ℕ
sets_from first lower upper = filter (λ s. nat_le first s) (sets_between lower upper)

-- x is the next set between two sets after s: above s, and no other one above s is lower
abbrev pub Next : ℕ → ℕ → ℕ → ℕ → Type 0
Next lower upper s x = (s < x) × ((f : ℕ) → Between lower upper f → s < f → x ≤ f)
