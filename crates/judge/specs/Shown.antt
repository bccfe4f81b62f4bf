-- Bytes as ranks, and the error where they are not one for each decision.
use Rattle.std.specs.Prelude.{◌≡◌, ℕ, List, ◌++◌, length, codes, decimal, ◌≢◌, Ok, Err, Result}
use Rattle.judge.specs.declared.ranks.Ranks.{Ranks}
use Rattle.judge.specs.declared.ranks.WrongCount.{WrongCount}

abbrev pub wrong_count_text : WrongCount → List ℕ
wrong_count_text wrong = codes "64 ranks are wanted, and not " ++ decimal wrong.0

-- the bytes are the ranks, or they are not 64, and the error tells how many they are
abbrev pub RanksOf : List ℕ → Result Ranks WrongCount → Type 0
RanksOf bytes (Ok ranks) = ranks.bytes ≡ bytes
RanksOf bytes (Err wrong) = (length bytes ≢ 64) × (wrong.0 ≡ length bytes)
