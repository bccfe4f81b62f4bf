-- Where a condition of two banks side by side stands.
use Rattle.std.specs.Prelude.{◌≡◌, ℕ, ◌-◌, ◌<◌, ◌≤◌}
use Rattle.banks.specs.declared.pair.Place.{Place}
use Rattle.banks.specs.declared.pair.Place.TheVariants.{First, Second}

-- the first n numbers are the first bank's own, and those from n on are the second bank's, counted from n
abbrev pub IsPlace : ℕ → ℕ → Place → Type 0
IsPlace n k (First j) = (k < n) × (j ≡ k)
IsPlace n k (Second j) = (n ≤ k) × (j ≡ k - n)
