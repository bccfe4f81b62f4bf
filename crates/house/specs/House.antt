-- What the house bank means, written out.
use Rattle.std.specs.Prelude.{ℕ, List, [], ◌∷◌, length, slice_index, slice_index_or}
use Rattle.banks.specs.Meaning.{Meaning}
use Rattle.sets.specs.Lists.{member}

-- a meaning by its domains and by the sets of its families
abbrev pub written : List ℕ → List (List ℕ) → Meaning
written domains families = record {
  count = length domains;
  domain = λ k. slice_index domains k;
  family = λ k f. member f (slice_index_or families k []);
}

-- the sets of the kilo condition: 2, -1 and 3 kilos for the decisions 0, 1 and 2, from 1 to 5 kilos
abbrev pub kilo_sets : List ℕ
kilo_sets = 0b001 ∷ 0b011 ∷ 0b100 ∷ 0b101 ∷ 0b110 ∷ 0b111 ∷ []

-- the sets of the grade condition: grades 1 and 4 for the decisions 0 and 2, from 0 to 3
abbrev pub grade_sets : List ℕ
grade_sets = 0b000 ∷ 0b001 ∷ []

abbrev pub listed_part : Meaning
listed_part = written (0b001 ∷ 0b010 ∷ 0b011 ∷ []) ((0b001 ∷ []) ∷ (0b010 ∷ []) ∷ (0b000 ∷ 0b011 ∷ []) ∷ [])

abbrev pub kilo_part : Meaning
kilo_part = written (0b111 ∷ []) (kilo_sets ∷ [])

abbrev pub grade_part : Meaning
grade_part = written (0b101 ∷ []) (grade_sets ∷ [])

-- the five conditions
abbrev pub house : Meaning
house =
    written (0b001 ∷ 0b010 ∷ 0b011 ∷ 0b111 ∷ 0b101 ∷ [])
    ((0b001 ∷ []) ∷ (0b010 ∷ []) ∷ (0b000 ∷ 0b011 ∷ []) ∷ kilo_sets ∷ grade_sets ∷ [])
