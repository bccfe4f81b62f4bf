-- Tables of weighed conditions: when they are valid, and what they mean.
use Rattle.std.specs.Prelude.{◌≡◌, ℕ, zero, suc, ◌+◌, ◌≤◌, Bool, true, false, ◌&&◌, List, [], ◌∷◌, length, take, drop}
use Rattle.std.specs.List.{AllByRecursion}
use Rattle.banks.specs.Meaning.{Meaning}
use Rattle.measures.specs.Scales.{Scale, laid, Allowed}
use Rattle.sets.specs.Sets.{inside, size}
use Rattle.sets.specs.Walks.{decisions}
use Rattle.weighed.specs.Totals.{chosen, within}
use Rattle.weighed.specs.declared.condition.WeighedCondition.{WeighedCondition}

-- what f says of the element at place k, and z past the end
abbrev pub pick : {X Y : Type 0} → List X → ℕ → (X → Y) → Y → Y
pick [] k f z = z
pick (x ∷ xs) zero f z = f x
pick (x ∷ xs) (suc k) f z = pick xs k f z

-- the weights of a condition, out of the row of all weights
abbrev pub row : {W : Type 0} → WeighedCondition W → List W → List W
row c ws = take (size c.domain) (drop c.first ws)

-- a domain of at most 12 decisions, a place for its weights inside the row of all weights, and bounds and weights that the measure allows
abbrev pub Sound : {W T : Type 0} → Scale W T → List W → WeighedCondition W → Type 0
Sound s ws c =
    (size c.domain ≤ 12) × (c.first + size c.domain ≤ length ws) × (s.fair c.low ≡ true) × (s.fair c.high ≡ true) × Allowed s (row c ws)

-- valid tables: at most 256 conditions, each of them sound
abbrev pub Valid : {W T : Type 0} → Scale W T → List (WeighedCondition W) → List W → Type 0
Valid s cs ws = (length cs ≤ 256) × AllByRecursion (Sound s ws) cs

-- the total of a set's weights, laid on in ascending order from nothing
abbrev pub total : {W T : Type 0} → Scale W T → WeighedCondition W → List W → ℕ → T
total s c ws f = laid s s.nothing (chosen (decisions c.domain) (row c ws) f)

-- whether a set inside the domain has a total between the bounds
abbrev pub balanced : {W T : Type 0} → Scale W T → WeighedCondition W → List W → ℕ → Bool
balanced s c ws f = inside f c.domain && within s (s.bound c.low) (s.bound c.high) (total s c ws f)

-- the meaning of tables: condition k has its domain from the table, and the balanced sets as its family
abbrev pub weighed : {W T : Type 0} → Scale W T → List (WeighedCondition W) → List W → Meaning
weighed s cs ws = record {
  count = length cs;
  domain = λ k. pick cs k (λ c. c.domain) 0;
  family = λ k f. pick cs k (λ c. balanced s c ws f) false;
}
