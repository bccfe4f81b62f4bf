-- What the text of a book tells.
use Rattle.std.specs.Prelude.{◌≡◌, ℕ, List, [], ◌∷◌}
use Rattle.banks.specs.Meaning.{Meaning, Lawful}
use Rattle.account.specs.Account.{Account, blank, Call, Answer, Run}
use Rattle.hexlines.specs.Hex.{Begins}
use Rattle.frames.specs.Frames.{Frame, spelled, Fit}
use Rattle.archive.specs.Text.{frames_of, text_of}
use Rattle.archive.specs.Formed.{Formed}

-- a text is that of at most one book
abbrev pub SpellsOneBook : Type 0
SpellsOneBook = (c d : ℕ) (a b : Account) → Formed c a → Formed d b → text_of c a ≡ text_of d b → (c ≡ d) × (a ≡ b)

-- every account that calls on a book just opened lead to is so formed
abbrev pub RunsFormed : Type 0
RunsFormed = (m : Meaning) → Lawful m → (cs : List Call) (rs : List Answer) (z : Account) → Run m blank cs rs z → Formed m.count z

-- the lines of the text spell these frames, one after another
abbrev pub Reads : List ℕ → List Frame → Type 0
Reads text [] = text ≡ []
Reads text (f ∷ frames) = Fit f × ((rest : List ℕ) × Begins text (spelled f) rest × Reads rest frames)

-- the text of a book is read line by line as the book's frames
abbrev pub LineByLine : Type 0
LineByLine = (count : ℕ) (a : Account) → Formed count a → Reads (text_of count a) (frames_of count a)
