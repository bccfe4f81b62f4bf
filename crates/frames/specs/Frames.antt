-- The frames of which the text of a book is made, and how each is spelled in bytes.
use Rattle.std.specs.Prelude.{◌≡◌, ℕ, ◌/◌, ◌%◌, List, [], ◌∷◌, ◌++◌, length}
use Rattle.sets.specs.Sets.{size}
use Rattle.answer_sets.specs.Rules.{Way}
use Rattle.frames.specs.Bytes.{in_two, in_eight}
use Rattle.rules.specs.Bytes.{way_byte}

-- the count of a bank; a rule by the number of its head and the bytes of its entries; a page by its way, its set and the
-- ranks of the set's decisions; how many rules and pages there are
pub data Frame : Type 0 where
  a_header : ℕ → Frame
  a_rule : ℕ → List ℕ → Frame
  a_page : Way → ℕ → List ℕ → Frame
  a_trailer : ℕ → ℕ → Frame

abbrev pub spelled : Frame → List ℕ
spelled (a_header count) = 1 ∷ in_two count
spelled (a_rule head entries) = 2 ∷ head ∷ length entries / 2 ∷ entries
spelled (a_page way s ranks) = 3 ∷ way_byte way ∷ (in_eight s ++ ranks)
spelled (a_trailer rules pages) = 4 ∷ rules ∷ pages ∷ []

-- an entry has two bytes, and there is a rank for each decision of the set
abbrev pub Fit : Frame → Type 0
Fit (a_header count) = Unit {0}
Fit (a_rule head entries) = length entries % 2 ≡ 0
Fit (a_page way s ranks) = length ranks ≡ size s
Fit (a_trailer rules pages) = Unit {0}

-- the bytes spell the frame
abbrev pub Spells : List ℕ → Frame → Type 0
Spells bytes f = Fit f × (bytes ≡ spelled f)

-- they spell none
abbrev pub NoFrame : List ℕ → Type 0
NoFrame bytes = (f : Frame) → Spells bytes f → ⊥
