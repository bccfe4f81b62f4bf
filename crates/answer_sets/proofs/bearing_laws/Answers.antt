use Rattle.answer_sets.proofs.Answer.{borne_is_answer_set, rounds_bear, stages_exist}
use Rattle.answer_sets.proofs.Bearing.{minimal, given, complement_reduct}
use Rattle.answer_sets.proofs.Ways.{ways_agree}
use Rattle.answer_sets.proofs.bearing_laws.Goals as goal

pub returns : goal.returns
returns c = record {
  published = borne_is_answer_set;
  rounds = rounds_bear;
  minimal = minimal;
  given = given;
  weaker = complement_reduct;
  agree = ways_agree;
  stages = stages_exist;
}
