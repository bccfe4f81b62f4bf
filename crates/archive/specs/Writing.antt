-- Text that is written into memory.
use Rattle.std.specs.Prelude.{◌≡◌, ℕ, ◌+◌, ◌<◌, ◌≤◌, List, [], ◌∷◌, ◌++◌, map, length, take, drop}
use Rattle.refusals.specs.declared.refusal.Refusal.{Refusal}
use Rattle.refusals.specs.Numbers.{Says}
use Rattle.account.specs.Account.{Page}
use Rattle.archive.specs.Text.{lines, page_frame, resting}

-- the memory with a text from a place on, and as it was elsewhere
unfoldable pub over : ℕ → List ℕ → List ℕ → List ℕ
over at text memory = (take at memory ++ text) ++ drop (at + length text) memory

-- a text was put at a place and ends before `end`; where the memory is too short for it, only the end is told
pub record Puts (before : List ℕ) (at : ℕ) (text after : List ℕ) (end : ℕ) : Type 0 where
  pub ends : end ≡ at + length text
  pub long : length after ≡ length before
  pub written : end ≤ length before → after ≡ over at text before

-- the lines of the pages that rest on exactly k rules
unfoldable pub lines_on : ℕ → List Page → List ℕ
lines_on k pages = lines (map page_frame (resting k pages))

-- the text was printed into memory: its length is answered, and the memory past it is as it was
pub record Printed (text before : List ℕ) (n : ℕ) (after : List ℕ) : Type 0 where
  pub counts : n ≡ length text
  pub room : n ≤ length before
  pub holds : after ≡ text ++ drop n before

-- the memory is too short for the text: the length needed is told, and the memory is as it was
pub record Refused (text before : List ℕ) (e : Refusal) (after : List ℕ) : Type 0 where
  pub says : Says e 30 (length text ∷ [])
  pub short : length before < length text
  pub same : after ≡ before
