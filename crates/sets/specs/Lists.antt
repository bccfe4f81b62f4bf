-- Lists of numbers: what stands in one, and when it ascends.
use Rattle.std.specs.Prelude.{ℕ, ◌+◌, ◌<◌, Bool, false, ◌||◌, List, [], ◌∷◌, length, ◌==◌, slice_index}

-- whether x stands in the list
abbrev pub member : ℕ → List ℕ → Bool
member x [] = false
member x (y ∷ ys) = y == x || member x ys

-- each number of the list is below the next
abbrev pub Ascends : List ℕ → Type 0
Ascends xs = (i : ℕ) → i + 1 < length xs → slice_index xs i < slice_index xs (i + 1)
