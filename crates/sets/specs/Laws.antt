-- What later statements rest on: the laws of sets and of the lists above.
use Rattle.std.specs.Prelude.{◌≡◌, ℕ, ◌^◌, ◌<◌, true, not, ◌&&◌, ◌||◌, ◌↔◌, length, ◌==◌}
use Rattle.sets.specs.Sets.{has, ◌∈◌, ◌⊆◌, ◌∩◌, ◌∪◌, ◌∖◌, single, size, Between}
use Rattle.sets.specs.Lists.{member, Ascends}
use Rattle.sets.specs.Walks.{decisions, sets_between, sets_from}

-- two sets with the same decisions are the same number
abbrev pub Extensional : Type 0
Extensional = (s t : ℕ) → ((d : ℕ) → (d ∈ s) ↔ (d ∈ t)) → s ≡ t

-- subset is a partial order, with intersection and union as the bounds of two sets
pub record Order : Type 0 where
  pub reflexive : (s : ℕ) → s ⊆ s
  pub transitive : (r s t : ℕ) → r ⊆ s → s ⊆ t → r ⊆ t
  pub antisymmetric : (s t : ℕ) → s ⊆ t → t ⊆ s → s ≡ t
  pub meet_first : (s t : ℕ) → s ∩ t ⊆ s
  pub meet_second : (s t : ℕ) → s ∩ t ⊆ t
  pub meet_greatest : (r s t : ℕ) → r ⊆ s → r ⊆ t → r ⊆ s ∩ t
  pub join_first : (s t : ℕ) → s ⊆ s ∪ t
  pub join_second : (s t : ℕ) → t ⊆ s ∪ t
  pub join_least : (s t u : ℕ) → s ⊆ u → t ⊆ u → s ∪ t ⊆ u

-- which decisions each operation gives
pub record Members : Type 0 where
  pub of_meet : (s t d : ℕ) → has (s ∩ t) d ≡ (has s d && has t d)
  pub of_join : (s t d : ℕ) → has (s ∪ t) d ≡ (has s d || has t d)
  pub of_difference : (s t d : ℕ) → has (s ∖ t) d ≡ (has s d && not (has t d))
  pub of_single : (e d : ℕ) → has (single e) d ≡ (d == e)
  pub below_width : (n s d : ℕ) → s < 2 ^ n → d ∈ s → d < n

-- the list of a set's decisions has each of them once, ascending, and is as long as the set is large
pub record DecisionsListed : Type 0 where
  pub exactly : (s d : ℕ) → s < 2 ^ 64 → (member d (decisions s) ≡ true) ↔ (d ∈ s)
  pub ascending : (s : ℕ) → Ascends (decisions s)
  pub counted : (s : ℕ) → s < 2 ^ 64 → length (decisions s) ≡ size s

-- the list of the sets between two sets has each of them once, ascending; there are 2 to the number of open decisions; and a
-- walk that starts at the lower set has them all to come
pub record BetweenListed : Type 0 where
  pub exactly : (lower upper s : ℕ) → lower ⊆ upper → upper < 2 ^ 64 → (member s (sets_between lower upper) ≡ true) ↔ Between lower upper s
  pub ascending : (lower upper : ℕ) → Ascends (sets_between lower upper)
  pub counted : (lower upper : ℕ) → lower ⊆ upper → upper < 2 ^ 64 → length (sets_between lower upper) ≡ 2 ^ size (upper ∖ lower)
  pub starts : (lower upper : ℕ) → lower ⊆ upper → upper < 2 ^ 64 → sets_from lower lower upper ≡ sets_between lower upper
