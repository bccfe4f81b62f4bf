-- What enter asks of a rule, whatever the book.
use Rattle.std.specs.Prelude.{ℕ, ◌≤◌, List, length}
use Rattle.std.specs.List.{AllByRecursion}
use Rattle.banks.specs.Meaning.{Meaning}
use Rattle.account.specs.Limits.{max_body}
use Rattle.answer_sets.specs.Naming.{NamesHead, Known}

-- a head and a body by their numbers, over a bank
pub record Sound (m : Meaning) (h : ℕ) (body : List ℕ) : Type 0 where
  pub head : NamesHead h
  pub short : length body ≤ max_body
  pub known : AllByRecursion (Known m) body
