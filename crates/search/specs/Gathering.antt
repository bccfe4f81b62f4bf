-- Listing the sets that a search finds one after the other.
use Rattle.std.specs.Prelude.{◌≡◌, ℕ, ◌^◌, ◌<◌, ◌≤◌, true, ◌↔◌, List}
use Rattle.sets.specs.Lists.{member, Ascends}
use Rattle.sets.specs.Sets.{size}
use Rattle.banks.specs.Meaning.{Meaning}
use Rattle.answer_sets.specs.Rules.{Way, Rule, Borne}
use Rattle.answer_sets.specs.Published.{AnswerSetBy, program}
use Rattle.rows.specs.Listings.{Lists}
use Rattle.rows.specs.declared.listing.Listing.{Listing}
use Rattle.search.specs.Search.{Heads}

-- the items are the sets not below start that some ranks bear, ascending: the answer sets
pub record Gathered (m : Meaning) (w : Way) (rules : List Rule) (start : ℕ) (items : List ℕ) : Type 0 where
  pub ascending : Ascends items
  pub borne : (n : ℕ) → (member n items ≡ true) ↔ ((n < 2 ^ 64) × (start ≤ n) × Borne m w rules n)
  pub answers : (n : ℕ) → (member n items ≡ true) ↔ ((n < 2 ^ 64) × (start ≤ n) × AnswerSetBy w (program m rules) n)

-- there are at most sixteen different heads, and the sets were placed in turn in memory that held `before`
pub record Gathers (m : Meaning) (w : Way) (rules : List Rule) (start : ℕ) (before : List ℕ) (answer : Listing ℕ) (after : List ℕ) : Type 0 where
  pub heads : ℕ
  pub drawn : Heads rules heads
  pub few : size heads ≤ 16
  pub items : List ℕ
  pub gathered : Gathered m w rules start items
  pub listed : Lists items before answer after
