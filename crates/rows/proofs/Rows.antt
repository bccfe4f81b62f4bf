-- Facts of bounded lists.
use Rattle.std.proofs.Common.{◌≡◌, ℕ, ◌<◌, ◌≤◌, List, [], ◌∷◌, ◌++◌, length, Ok, Err, Result, arith}
use Rattle.std.specs.Result.{MatchResult}
use Rattle.std.proofs.lemmas.List.{length-take-le}
use Rattle.rows.specs.declared.row.Row.{Row}
use Rattle.rows.specs.Rows.{held}

-- a bounded list is as long as its count says
pub length_held : {T : Type 0} {N : ℕ} (row : Row T N) → length (held row) ≡ row.len
length_held row = length-take-le row.len row.items (omega arith)

-- and never longer than its bound
pub held_bound : {T : Type 0} {N : ℕ} (row : Row T N) → length (held row) ≤ N
held_bound row = let e = length_held row in omega arith

-- an item put into a list that is not full stands at its end
pub pushed : {T : Type 0} (before after : List T) (x : T) {N : ℕ} (r : Result (Unit {0}) T) → length before < N →
    MatchResult r (λ _. (length before < N) × (after ≡ before ++ x ∷ [])) (λ y. (length before ≡ N) × (y ≡ x) × (after ≡ before)) → after ≡ before ++ x ∷ []
pushed before after x (Ok done) room h = h.1
pushed before after x (Err y) room h = let full = h.0 in absurd (omega arith)
