-- The laws of a measure, for grades.
use Rattle.std.specs.Prelude.{max}
use Rattle.std.proofs.Common.{arith}
use Rattle.std.proofs.lemmas.Bool.{leb-true, leb-false, le-leb}
use Rattle.measures.specs.Scales.{Laws}
use Rattle.measures.specs.Grades.{grades}

pub grade_laws : Laws grades
grade_laws = record {
  either = λ s t p q h. le-leb t.value s.value (omega (arith, leb-false s.value t.value h));
  transitive = λ r s t p q u h k. le-leb r.value t.value (omega (arith, leb-true r.value s.value h, leb-true s.value t.value k));
  exchange = λ t v w p a b.
      (le-leb (max (max t.value v) w) (max (max t.value w) v) (omega arith), le-leb (max (max t.value w) v) (max (max t.value v) w) (omega arith));
  monotone = λ s t w p q a h. le-leb (max s.value w) (max t.value w) (omega (arith, leb-true s.value t.value h));
}
