-- What a call does that lists items in memory that the caller lends.
use Rattle.std.specs.Prelude.{◌≡◌, ℕ, ◌+◌, ◌<◌, ◌≤◌, min, List, ◌∷◌, ◌++◌, length, take, drop, Some, None, Option, Ok, Err, Result, slice_set}
use Rattle.rows.specs.declared.listing.Listing.{Listing}

-- place `n` is filled and the count goes up by one, or all places are filled, the item comes back and nothing changes
abbrev pub Puts : {T : Type 0} → List T → ℕ → T → Result (Unit {0}) T → List T → ℕ → Type 0
Puts before n x (Ok done) after m = (n < length before) × (m ≡ n + 1) × (after ≡ slice_set before n x)
Puts before n x (Err y) after m = (length before ≤ n) × (m ≡ n) × (after ≡ before) × (y ≡ x)

-- every item has a place, or `x` is the first that has none
abbrev pub Ends : {T : Type 0} → List T → List T → ℕ → Option T → Type 0
Ends items before placed None = length items ≤ length before
Ends {T} items before placed (Some x) = (rest : List T) × (drop placed items ≡ x ∷ rest)

-- the items were to be placed in turn in memory that held `before`
pub record Lists {T : Type 0} (items before : List T) (answer : Listing T) (after : List T) : Type 0 where
  pub placed : answer.placed ≡ min (length items) (length before)
  pub contents : after ≡ take answer.placed items ++ drop answer.placed before
  pub unplaced : Ends items before answer.placed answer.unplaced
