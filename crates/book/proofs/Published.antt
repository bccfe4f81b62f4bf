-- That file is exact, in the words of the published definition.
use Rattle.std.proofs.Common.{ℕ, ◌^◌, ◌<◌, ◌↔◌}
use Rattle.banks.specs.Meaning.{Meaning}
use Rattle.answer_sets.specs.Rules.{Way}
use Rattle.answer_sets.specs.Published.{AnswerSetBy, program}
use Rattle.answer_sets.proofs.Answer.{borne_is_answer_set}
use Rattle.account.specs.Account.{Account, file, Answer, Accepted, Free, Step}
use Rattle.account.proofs.Exact.{file_exact}

pub file_published : (m : Meaning) (a : Account) (w : Way) (M : ℕ) → M < 2 ^ 64 → (r : Answer) (z : Account) → Step m a (file w M) r z
    → Accepted r ↔ (Free a × AnswerSetBy w (program m a.rules) M)
file_published m a w M l r z s =
    let exact = file_exact m a w M r z s in
    let same = borne_is_answer_set m w a.rules M l in (
      λ yes. let both = exact.0 yes in (both.0, same.0 both.1),
      λ both. exact.1 (both.0, same.1 both.1),
    )
