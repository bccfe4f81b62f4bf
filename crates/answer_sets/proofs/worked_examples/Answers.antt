use Rattle.answer_sets.proofs.Worked.{worked}
use Rattle.answer_sets.proofs.worked_examples.Goals as goal

pub returns : goal.returns
returns c = worked
