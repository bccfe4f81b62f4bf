-- The lines of a book's text are its frames.
use Rattle.std.proofs.Common.{◌≡◌, ℕ, ◌+◌, ◌%◌, ◌^◌, ◌<◌, ◌≤◌, Bool, true, false, cond, eqb, List, [], ◌∷◌, map, length, filter, refl, ◌∙◌, ⊎_elim, arith, length-append}
use Rattle.std.specs.List.{AllByRecursion}
use Rattle.std.proofs.ByRecursion.{All-append, All-map}
use Rattle.std.proofs.lemmas.List.{length-map, get_or_past}
use Rattle.std.proofs.lemmas.Bool.{cases_lt, cases_Bool}
use Rattle.sets.specs.Sets.{has}
use Rattle.sets.specs.Walks.{decisions}
use Rattle.sets.proofs.Listing.{decisions_listed}
use Rattle.answer_sets.specs.Rules.{Way, reduct, complement, Head, decision, no_head, Entry, Rule, Ranked, rank}
use Rattle.account.specs.Account.{Account, Page}
use Rattle.hexlines.specs.Hex.{Bytes}
use Rattle.hexlines.proofs.Hexes.{bytes_append}
use Rattle.frames.specs.Bytes.{in_two, in_eight}
use Rattle.rules.specs.Bytes.{way_byte}
use Rattle.frames.specs.Frames.{Frame, a_header, a_trailer, spelled, Fit}
use Rattle.answer_sets.specs.Naming.{head_number}
use Rattle.answer_sets.specs.Naming.{entry_number}
use Rattle.archive.specs.Text.{body_bytes, rule_frame, page_frame, resting, inner, frames_of, lines, text_of}
use Rattle.archive.specs.Formed.{HeadFormed, RuleFormed, PageFormed, Formed}
use Rattle.archive.specs.Laws.{Reads, LineByLine}
use Rattle.archive.proofs.Pieces.{length_body, few_decisions}

-- what can stand on a line
record Fits (f : Frame) : Type 0 where
  fit : Fit f
  some : 0 < length (spelled f)
  few : length (spelled f) ≤ 74
  small : Bytes (spelled f)

reads : (frames : List Frame) → AllByRecursion Fits frames → Reads (lines frames) frames
reads [] h = refl
reads (f ∷ frames) h = (h.0.fit, (lines frames, record { some = h.0.some; few = h.0.few; small = h.0.small; spells = refl }, reads frames h.1))

two_small : (n : ℕ) → n < 65536 → Bytes (in_two n)
two_small n l = (omega arith, (omega arith, tt))

eight_small : (n : ℕ) → n < 2 ^ 64 → Bytes (in_eight n)
eight_small n l = (omega arith, (omega arith, (omega arith, (omega arith, (omega arith, (omega arith, (omega arith, (omega arith, tt))))))))

way_small : (w : Way) → way_byte w < 256
way_small reduct = omega arith
way_small complement = omega arith

head_small : (h : Head) → HeadFormed h → head_number h < 256
head_small (decision d) l = omega arith
head_small no_head l = omega arith

number_by : (t : Bool) (c : ℕ) → c % 32768 + cond t 32768 0 < 65536
number_by true c = omega arith
number_by false c = omega arith

body_small : (body : List Entry) → Bytes (body_bytes body)
body_small [] = tt
body_small (e ∷ body) = bytes_append (in_two (entry_number e)) (body_bytes body) (two_small (entry_number e) (number_by e.negated e.condition)) (body_small body)

-- a rank is a byte
rank_small : (s : ℕ) (ranks : List ℕ) → Ranked s ranks → (d : ℕ) → rank ranks d < 256
rank_small s ranks r d = ⊎_elim
    (λ l. ⊎_elim (λ m. let k = (r.inside d m).1 in omega arith) (λ m. let k = r.outside d l m in omega arith) (cases_Bool (has s d)))
    (λ l. let n = r.places in let k : rank ranks d ≡ 0 = get_or_past ranks d 0 (omega arith) in omega arith)
    (cases_lt d 64)

ranks_small : (ranks ds : List ℕ) → ((d : ℕ) → rank ranks d < 256) → Bytes (map (rank ranks) ds)
ranks_small ranks [] h = tt
ranks_small ranks (d ∷ ds) h = (h d, ranks_small ranks ds h)

header_fits : (count : ℕ) → count < 2 ^ 16 → Fits (a_header count)
header_fits count l = record { fit = tt; some = omega arith; few = omega arith; small = (omega arith, two_small count (omega arith)) }

trailer_fits : (rules pages : ℕ) → rules < 256 → pages < 256 → Fits (a_trailer rules pages)
trailer_fits rules pages l m = record { fit = tt; some = omega arith; few = omega arith; small = (omega arith, (l, (m, tt))) }

rule_fits : (r : Rule) → RuleFormed r → Fits (rule_frame r)
unfolding rule_frame
rule_fits r f =
    let n = length_body r.body in
    let s = f.short in
    record { fit = omega arith; some = omega arith; few = omega arith; small = (omega arith, (head_small r.head f.head, (omega arith, body_small r.body))) }

page_fits : (rules : List Rule) (p : Page) → PageFormed rules p → Fits (page_frame p)
unfolding page_frame
page_fits rules p f =
    let s = p.«set» in
    let ranks = map (rank p.ranks) (decisions s) in
    let n = length-map (decisions s) (rank p.ranks) in
    let m = few_decisions s f.small in
    let k = length-append (in_eight s) ranks in
    record {
      fit = n ∙ decisions_listed.counted s f.small;
      some = omega arith;
      few = omega arith;
      small = (omega arith, (way_small p.way, bytes_append (in_eight s) ranks (eight_small s f.small) (ranks_small p.ranks (decisions s) (rank_small s p.ranks f.ranked))));
    }

kept_one : {X : Type 0} (P : X → Type 0) (t : Bool) (x : X) (xs : List X) → P x → AllByRecursion P xs → AllByRecursion P (cond t (x ∷ xs) xs)
kept_one P true x xs h a = (h, a)
kept_one P false x xs h a = a

all_kept : {X : Type 0} (P : X → Type 0) (test : X → Bool) (xs : List X) → AllByRecursion P xs → AllByRecursion P (filter test xs)
all_kept P test [] h = tt
all_kept P test (x ∷ xs) h = kept_one P (test x) x (filter test xs) h.0 (all_kept P test xs h.1)

pages_fit : (k : ℕ) (pages : List Page) → AllByRecursion (λ p. Fits (page_frame p)) pages → AllByRecursion Fits (map page_frame (resting k pages))
pages_fit k pages h = All-map Fits page_frame (resting k pages) (all_kept (λ p. Fits (page_frame p)) (λ p. eqb (length p.rules) k) pages h)

inner_fits : (k : ℕ) (rules : List Rule) (pages : List Page) → AllByRecursion RuleFormed rules → AllByRecursion (λ p. Fits (page_frame p)) pages → AllByRecursion Fits (inner k rules pages)
unfolding inner
inner_fits k [] pages h g = pages_fit k pages g
inner_fits k (r ∷ rules) pages h g =
    All-append Fits (map page_frame (resting k pages)) (rule_frame r ∷ inner (k + 1) rules pages) (pages_fit k pages g) (rule_fits r h.0, inner_fits (k + 1) rules pages h.1 g)

all_pages_fit : (rules : List Rule) (pages : List Page) → AllByRecursion (PageFormed rules) pages → AllByRecursion (λ p. Fits (page_frame p)) pages
all_pages_fit rules [] h = tt
all_pages_fit rules (p ∷ pages) h = (page_fits rules p h.0, all_pages_fit rules pages h.1)

frames_fit : (count : ℕ) (a : Account) → Formed count a → AllByRecursion Fits (frames_of count a)
unfolding frames_of
frames_fit count a f =
    let r = f.few_rules in
    let p = f.few_pages in
    let last = a_trailer (length a.rules) (length a.pages) in (
      header_fits count f.counted,
      All-append Fits (inner 0 a.rules a.pages) (last ∷ []) (inner_fits 0 a.rules a.pages f.rules (all_pages_fit a.rules a.pages f.pages))
          (trailer_fits (length a.rules) (length a.pages) (omega arith) (omega arith), tt),
    )

pub line_by_line : LineByLine
unfolding text_of
line_by_line count a f = reads (frames_of count a) (frames_fit count a f)
