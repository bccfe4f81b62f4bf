-- The text of a book: a header, the rules with the pages among them, and a trailer, each a line.
use Rattle.std.specs.Prelude.{ℕ, ◌+◌, List, [], ◌∷◌, ◌++◌, map, length, filter, nat_eq}
use Rattle.std.specs.List.{flat_map}
use Rattle.sets.specs.Walks.{decisions}
use Rattle.answer_sets.specs.Rules.{Entry, Rule, rank}
use Rattle.account.specs.Account.{Account, Page}
use Rattle.answer_sets.specs.Naming.{head_number, entry_number}
use Rattle.hexlines.specs.Hex.{line}
use Rattle.frames.specs.Bytes.{in_two}
use Rattle.frames.specs.Frames.{Frame, a_header, a_rule, a_page, a_trailer, spelled}

-- the entries of a body, two bytes each
abbrev pub body_bytes : List Entry → List ℕ
body_bytes body = flat_map (λ e. in_two (entry_number e)) body

unfoldable pub rule_frame : Rule → Frame
rule_frame r = a_rule (head_number r.head) (body_bytes r.body)

unfoldable pub page_frame : Page → Frame
page_frame p = a_page p.way p.«set» (map (rank p.ranks) (decisions p.«set»))

-- the pages that rest on exactly k rules, in order
abbrev pub resting : ℕ → List Page → List Page
resting k pages = filter (λ p. nat_eq (length p.rules) k) pages

-- the frames of the rules from rule k on, each after the pages that rest on the rules before it; the last pages rest on all
unfoldable pub inner : ℕ → List Rule → List Page → List Frame
inner k [] pages = map page_frame (resting k pages)
inner k (r ∷ rest) pages = map page_frame (resting k pages) ++ rule_frame r ∷ inner (k + 1) rest pages

-- the frames of a book over a bank with this many conditions
unfoldable pub frames_of : ℕ → Account → List Frame
frames_of count a = a_header count ∷ (inner 0 a.rules a.pages ++ a_trailer (length a.rules) (length a.pages) ∷ [])

-- the lines of some frames
abbrev pub lines : List Frame → List ℕ
lines frames = flat_map (λ f. line (spelled f)) frames

-- the text of a book
unfoldable pub text_of : ℕ → Account → List ℕ
text_of count a = lines (frames_of count a)
