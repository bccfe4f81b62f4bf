-- Sets and ranks as they are printed.
use Rattle.std.specs.Prelude.{ℕ, List, [], ◌∷◌, ◌++◌, codes, decimal}
use Rattle.std.specs.List.{flat_map}
use Rattle.sets.specs.Walks.{decisions}
use Rattle.answer_sets.specs.Rules.{rank}

-- each number after a comma
abbrev pub more_text : List ℕ → List ℕ
more_text ds = flat_map (λ d. codes ", " ++ decimal d) ds

-- numbers with commas between them
abbrev pub list_text : List ℕ → List ℕ
list_text [] = []
list_text (d ∷ ds) = decimal d ++ more_text ds

-- the decisions of a set in braces, lowest first
abbrev pub set_text : ℕ → List ℕ
set_text s = codes "{" ++ (list_text (decisions s) ++ codes "}")

-- each of these decisions after a space, with its rank after a colon
abbrev pub ranks_text : List ℕ → List ℕ → List ℕ
ranks_text ranks ds = flat_map (λ d. (codes " " ++ decimal d) ++ (codes ":" ++ decimal (rank ranks d))) ds

-- the decisions of a set with their ranks
abbrev pub ranked_text : List ℕ → ℕ → List ℕ
ranked_text ranks s = ranks_text ranks (decisions s)
