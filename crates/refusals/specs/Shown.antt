-- A refusal as it is printed.
use Rattle.std.specs.Prelude.{ℕ, List, [], ◌∷◌, ◌++◌, codes, decimal}
use Rattle.refusals.specs.declared.refusal.Refusal.{Refusal}
use Rattle.refusals.specs.Numbers.{number, told}

-- the value that is told, if one is
abbrev pub tail_text : List ℕ → List ℕ
tail_text [] = []
tail_text (value ∷ rest) = codes ", told " ++ decimal value

-- the refusal's number, and the value told with it
abbrev pub refusal_text : Refusal → List ℕ
refusal_text e = (codes "refused " ++ decimal (number e)) ++ tail_text (told e)
