-- The bytes of frames, piece by piece.
use Rattle.std.proofs.Common.{◌≡◌, ℕ, ◌+◌, ◌*◌, ◌/◌, ◌^◌, ◌<◌, ◌≤◌, false, List, [], ◌∷◌, ◌++◌, map, length, get_or, take, sym, refl, ap, ◌∙◌, append_assoc, arith}
use lib.Count.{ones-le}
use Rattle.std.specs.List.{flat_map}
use Rattle.std.proofs.lemmas.List.{map_more, flat_map_more}
use Rattle.sets.specs.Walks.{decisions}
use Rattle.sets.proofs.Listing.{decisions_listed}
use Rattle.answer_sets.specs.Rules as meant
use Rattle.answer_sets.specs.Rules.{rank}
use Rattle.rows.specs.Rows.{held}
use Rattle.rows.proofs.Rows.{held_bound}
use Rattle.rules.specs.Shapes.{entry_of}
use Rattle.rules.specs.declared.rule.Rule.{Rule}
use Rattle.rules.specs.declared.entry.Entry.{Entry}
use Rattle.account.specs.Account.{Page}
use Rattle.answer_sets.specs.Naming.{head_number}
use Rattle.frames.specs.Bytes.{in_two, in_eight}
use Rattle.rules.specs.Bytes.{way_byte}
use Rattle.frames.specs.Frames.{spelled}
use Rattle.answer_sets.specs.Naming.{entry_number}
use Rattle.archive.specs.Text.{body_bytes, rule_frame, page_frame}

-- what is read past the end of a body
abbrev pub blank : Entry
blank = record { condition = 0; negated = false }

pub length_body : (body : List meant.Entry) → length (body_bytes body) ≡ 2 * length body
length_body [] = refl
length_body (e ∷ body) = let n = length_body body in omega arith

-- one entry more
pub body_more : (start was after : List ℕ) (body : List Entry) (i : ℕ) → i < length body → was ≡ start ++ body_bytes (map entry_of (take i body)) →
    after ≡ was ++ in_two (entry_number (entry_of (get_or body i blank))) → after ≡ start ++ body_bytes (map entry_of (take (i + 1) body))
body_more start was after body i l p q =
    let f : meant.Entry → List ℕ = λ e. in_two (entry_number e) in
    q ∙ ap (λ x. x ++ f (entry_of (get_or body i blank))) p ∙ flat_map_more f start (map entry_of (take i body)) (entry_of (get_or body i blank))
    ∙ ap (λ x. start ++ flat_map f x) (sym (map_more entry_of body i blank l))

-- a set has at most 64 decisions
pub few_decisions : (s : ℕ) → s < 2 ^ 64 → length (decisions s) ≤ 64
few_decisions s l = let n = decisions_listed.counted s l in let m = ones-le 64 s l in omega arith

-- one rank more
pub ranks_more : (was after all ranks left rest : List ℕ) (d r : ℕ) → was ++ map (rank ranks) left ≡ all → left ≡ d ∷ rest → r ≡ d → after ≡ was ++ get_or ranks r 0 ∷ [] →
    after ++ map (rank ranks) rest ≡ all
ranks_more was after all ranks left rest d r p q e s =
    ap (λ l. l ++ map (rank ranks) rest) (s ∙ ap (λ x. was ++ get_or ranks x 0 ∷ []) e) ∙ append_assoc was (rank ranks d ∷ []) (map (rank ranks) rest)
    ∙ ap (λ l. was ++ map (rank ranks) l) (sym q) ∙ p

-- a rule's frame, from its first bytes and its body
pub rule_spelled : (head : meant.Head) (body : List meant.Entry) (h n : ℕ) (start after : List ℕ) → h ≡ head_number head → n ≡ length body → start ≡ 2 ∷ h ∷ n ∷ [] →
    after ≡ start ++ body_bytes body → after ≡ spelled (rule_frame (record { head = head; body = body }))
unfolding rule_frame
rule_spelled head body h n start after p q s a =
    let m = length_body body in
    let half : n ≡ length (body_bytes body) / 2 = omega arith in
    a ∙ ap (λ l. l ++ body_bytes body) s ∙ ap (λ x. 2 ∷ x ∷ n ∷ body_bytes body) p ∙ ap (λ x. 2 ∷ head_number head ∷ x ∷ body_bytes body) half

-- a page's frame, from its first bytes, its set and its ranks
pub page_spelled : (p : Page) (w : ℕ) (start mid after : List ℕ) → w ≡ way_byte p.way → start ≡ 3 ∷ w ∷ [] → mid ≡ start ++ in_eight p.«set» →
    after ≡ mid ++ map (rank p.ranks) (decisions p.«set») → after ≡ spelled (page_frame p)
unfolding page_frame
page_spelled p w start mid after e s m a =
    let ranks = map (rank p.ranks) (decisions p.«set») in
    a ∙ ap (λ l. l ++ ranks) (m ∙ ap (λ l. l ++ in_eight p.«set») (s ∙ ap (λ x. 3 ∷ x ∷ []) e))

pub short_body : (rule : Rule) → length (held rule.body) ≤ 8
short_body rule = held_bound rule.body
