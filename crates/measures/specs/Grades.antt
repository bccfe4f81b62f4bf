-- Grades: weights and bounds from 0 to 255, and the greatest weight as the total.
use Rattle.std.specs.Prelude.{ℕ, max, Bool, nat_le}
use Rattle.measures.specs.Scales.{Scale}
use Rattle.measures.specs.declared.grade.Grade.{Grade}

abbrev pub grade : ℕ → Grade
grade n = record { value = n }

abbrev pub no_grade : Grade
no_grade = grade 0

abbrev pub grade_ok : ℕ → Bool
grade_ok w = nat_le w 255

abbrev pub grade_lay : Grade → ℕ → Grade
grade_lay t w = grade (max t.value w)

abbrev pub grade_le : Grade → Grade → Bool
grade_le s t = nat_le s.value t.value

abbrev pub grades : Scale ℕ Grade
grades = record { ok = grade_ok; fair = grade_ok; bound = grade; nothing = no_grade; lay = grade_lay; le = grade_le }
