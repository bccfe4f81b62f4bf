-- The worked examples, computed.
use Rattle.std.proofs.Common.{◌≡◌, ◌^◌, ◌<◌, Bool, true, false, not, ◌&&◌, ltb, refl}
use Rattle.std.specs.List.{AllByRecursion}
use Rattle.std.proofs.lemmas.Bool.{and_parts, both_ways, ltb-true, not-true}
use Rattle.sets.specs.Sets.{has, collect}
use Rattle.answer_sets.specs.Tests.{allb, all_between, derives, round, borneb}
use Rattle.answer_sets.specs.Examples.{Row, VerdictAt, Verdict, examples}
use Rattle.answer_sets.proofs.Each.{allb_all}
use Rattle.answer_sets.proofs.Bearing.{borneb_sound, borneb_complete}
use Rattle.answer_sets.proofs.Answer.{borne_is_answer_set}

abbrev same : Bool → Bool → Bool
same true b = b
same false b = not b

abbrev check : Row → Bool
check r = ltb r.set (2 ^ 64) && same r.answer (borneb r.conditions r.way r.rules r.set)

by_answer : (r : Row) (b : Bool) → r.set < 2 ^ 64 → same b (borneb r.conditions r.way r.rules r.set) ≡ true → VerdictAt b r
by_answer r true l h =
    (borne_is_answer_set r.conditions r.way r.rules r.set l).0 (borneb_sound r.conditions r.way r.rules r.set l h)
by_answer r false l h = λ a.
    both_ways (borneb r.conditions r.way r.rules r.set) (not-true (borneb r.conditions r.way r.rules r.set) h)
    (borneb_complete r.conditions r.way r.rules r.set l ((borne_is_answer_set r.conditions r.way r.rules r.set l).1 a))

checked : allb check examples ≡ true
unfolding borneb round derives all_between collect has
checked = refl

pub worked : AllByRecursion Verdict examples
worked =
    allb_all check Verdict
    (λ r h. let p = and_parts (ltb r.set (2 ^ 64)) (same r.answer (borneb r.conditions r.way r.rules r.set)) h in
    by_answer r r.answer (ltb-true r.set (2 ^ 64) p.0) p.1)
    examples checked
