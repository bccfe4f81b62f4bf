-- On how many rules the pages rest.
use Rattle.std.specs.Prelude.{ℕ, ◌-◌, ◌<◌, ◌≤◌, List, map, length, slice_index}
use Rattle.book.specs.declared.page.Page.{Page}

-- the number of rules of each page, first page first
abbrev pub counts : List Page → List ℕ
counts pages = map (λ p. p.rules) pages

-- the last of a list of numbers, or 0
abbrev pub last_of : List ℕ → ℕ
last_of ns = slice_index ns (length ns - 1)

-- no number is above the last, nor the last above n
abbrev pub Level : List ℕ → ℕ → Type 0
Level ns n = (last_of ns ≤ n) × ((k : ℕ) → k < length ns → slice_index ns k ≤ last_of ns)
