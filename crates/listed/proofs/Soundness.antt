-- Tables, condition by condition.
use Rattle.std.proofs.Common.{ℕ, List, length, sym, subst, ⊎_elim, not-suc-le-zero, arith, lit<}
use lib.Count.{ones-le}
use Rattle.std.proofs.lemmas.List.{get_or_past}
use Rattle.std.proofs.lemmas.Bool.{cases_lt}
use Rattle.listed.specs.Tables.{Sound, Valid, condition, no_condition}
use Rattle.listed.specs.declared.condition.ListedCondition.{ListedCondition}

sound_none : (sets : List ℕ) → Sound no_condition sets
sound_none sets =
    (omega (arith, ones-le 0 0 (lit< tt)), omega arith, (λ i h. absurd (not-suc-le-zero h)), (λ i h. absurd (not-suc-le-zero h)))

-- past the end of the table too
pub sound_at : (cs : List ListedCondition) (sets : List ℕ) → Valid cs sets → (k : ℕ) → Sound (condition cs k) sets
sound_at cs sets v k =
    ⊎_elim (λ l. v.1 k l)
    (λ past. subst (λ (c : ListedCondition). Sound c sets) (sym (get_or_past cs k no_condition past)) (sound_none sets)) (cases_lt k (length cs))
