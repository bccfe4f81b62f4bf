-- A text is that of at most one book.
use Rattle.std.proofs.Common.{◌≡◌, ℕ, ◌+◌, ◌<◌, ◌≤◌, Bool, true, false, cond, eqb, List, [], ◌∷◌, ◌++◌, map, length, get_or, drop, sym, refl, ap, ◌∙◌, subst, ⊎_elim, append-nil, arith, length-append}
use Rattle.std.specs.List.{AllByRecursion}
use Rattle.std.proofs.lemmas.List.{length-take, same_from_push}
use Rattle.std.proofs.lemmas.Bool.{cases_lt, cases_order, eq-eqb, ne_eqb, eqb-true}
use Rattle.answer_sets.specs.Rules.{Rule}
use Rattle.account.specs.Account.{Account, Page}
use Rattle.hexlines.specs.Hex.{line}
use Rattle.hexlines.proofs.Lines.{line_same, length_line}
use Rattle.frames.specs.Frames.{Frame, a_header, a_trailer, spelled}
use Rattle.frames.proofs.Known.{two_same, frame_same}
use Rattle.archive.specs.Text.{rule_frame, page_frame, resting, inner, frames_of, lines, text_of}
use Rattle.archive.specs.Formed.{RuleFormed, PageFormed, Rising}
use Rattle.archive.specs.Laws.{SpellsOneBook}
use Rattle.archive.proofs.Spelled.{rule_same, page_same}

-- ---- lines

no_lines : (f : Frame) (frames : List Frame) → lines (f ∷ frames) ≡ [] → ⊥
no_lines f frames e = omega (arith, ap length e, length-append (line (spelled f)) (lines frames), length_line (spelled f))

lines_same : (fs gs : List Frame) → lines fs ≡ lines gs → fs ≡ gs
lines_same [] [] e = refl
lines_same [] (g ∷ gs) e = absurd (no_lines g gs (sym e))
lines_same (f ∷ fs) [] e = absurd (no_lines f fs e)
lines_same (f ∷ fs) (g ∷ gs) e =
    let both = line_same (spelled f) (spelled g) (lines fs) (lines gs) e in
    ap (λ x. x ∷ fs) (frame_same f g both.0) ∙ ap (λ x. g ∷ x) (lines_same fs gs both.1)

-- ---- frames of pages, and then others

-- the first byte of the first frame
first_byte : List Frame → ℕ
first_byte frames = get_or (spelled (get_or frames 0 (a_header 0))) 0 0

page_first : (p : Page) (frames : List Frame) → first_byte (page_frame p ∷ frames) ≡ 3
unfolding first_byte page_frame
page_first p frames = refl

rule_first : (r : Rule) (frames : List Frame) → first_byte (rule_frame r ∷ frames) ≡ 3 → ⊥
unfolding first_byte rule_frame
rule_first r frames e = omega arith

none_first : first_byte [] ≡ 3 → ⊥
unfolding first_byte
none_first e = omega arith

pages_apart : (xs ys : List Page) (us vs : List Frame) → (first_byte us ≡ 3 → ⊥) → (first_byte vs ≡ 3 → ⊥) → map page_frame xs ++ us ≡ map page_frame ys ++ vs →
    (map page_frame xs ≡ map page_frame ys) × (us ≡ vs)
pages_apart [] [] us vs u v e = (refl, e)
pages_apart [] (y ∷ ys) us vs u v e = absurd (u (ap first_byte e ∙ page_first y (map page_frame ys ++ vs)))
pages_apart (x ∷ xs) [] us vs u v e = absurd (v (ap first_byte (sym e) ∙ page_first x (map page_frame xs ++ us)))
pages_apart (x ∷ xs) (y ∷ ys) us vs u v e =
    let more = pages_apart xs ys us vs u v (ap (λ l. drop 1 l) e) in
    (ap (λ f. f ∷ map page_frame xs) (ap (λ l. get_or l 0 (a_header 0)) e) ∙ ap (λ l. page_frame y ∷ l) more.0, more.1)

-- ---- rules with pages among them

On : ℕ → List Page → List Frame
On k pages = map page_frame (resting k pages)

inner_none : (k : ℕ) (pages : List Page) → inner k [] pages ≡ On k pages ++ []
unfolding inner On
inner_none k pages = sym (append-nil (map page_frame (resting k pages)))

inner_some : (k : ℕ) (r : Rule) (rules : List Rule) (pages : List Page) → inner k (r ∷ rules) pages ≡ On k pages ++ rule_frame r ∷ inner (k + 1) rules pages
unfolding inner On
inner_some k r rules pages = refl

on_apart : (k : ℕ) (ps qs : List Page) (us vs : List Frame) → (first_byte us ≡ 3 → ⊥) → (first_byte vs ≡ 3 → ⊥) → On k ps ++ us ≡ On k qs ++ vs → (On k ps ≡ On k qs) × (us ≡ vs)
unfolding On
on_apart k ps qs us vs u v e = pages_apart (resting k ps) (resting k qs) us vs u v e

-- the same frames of rules, and the same frames of the pages on each number of them
record Agree (k : ℕ) (rs ss : List Rule) (ps qs : List Page) : Type 0 where
  rules : map rule_frame rs ≡ map rule_frame ss
  pages : (j : ℕ) → k ≤ j → j ≤ k + length rs → On j ps ≡ On j qs

inner_same : (k : ℕ) (rs ss : List Rule) (ps qs : List Page) → inner k rs ps ≡ inner k ss qs → Agree k rs ss ps qs
inner_same k [] [] ps qs e =
    let both = on_apart k ps qs [] [] none_first none_first (sym (inner_none k ps) ∙ e ∙ inner_none k qs) in
    record { rules = refl; pages = λ j l m. let same : k ≡ j = omega arith in subst (λ i. On i ps ≡ On i qs) same both.0 }
inner_same k [] (s ∷ ss) ps qs e =
    let both = on_apart k ps qs [] (rule_frame s ∷ inner (k + 1) ss qs) none_first (rule_first s (inner (k + 1) ss qs)) (sym (inner_none k ps) ∙ e ∙ inner_some k s ss qs) in
    let n = ap length both.1 in absurd (omega arith)
inner_same k (r ∷ rs) [] ps qs e =
    let both = on_apart k ps qs (rule_frame r ∷ inner (k + 1) rs ps) [] (rule_first r (inner (k + 1) rs ps)) none_first (sym (inner_some k r rs ps) ∙ e ∙ inner_none k qs) in
    let n = ap length both.1 in absurd (omega arith)
inner_same k (r ∷ rs) (s ∷ ss) ps qs e =
    let both = on_apart k ps qs (rule_frame r ∷ inner (k + 1) rs ps) (rule_frame s ∷ inner (k + 1) ss qs) (rule_first r (inner (k + 1) rs ps)) (rule_first s (inner (k + 1) ss qs))
    (sym (inner_some k r rs ps) ∙ e ∙ inner_some k s ss qs) in
    let more = inner_same (k + 1) rs ss ps qs (ap (λ l. drop 1 l) both.1) in
    record {
      rules = ap (λ f. f ∷ map rule_frame rs) (ap (λ l. get_or l 0 (a_header 0)) both.1) ∙ ap (λ l. rule_frame s ∷ l) more.rules;
      pages = λ j l m. ⊎_elim
          (λ (less : k < j). more.pages j (omega arith) (omega arith))
          (λ (same : j ≤ k). let here : k ≡ j = omega arith in subst (λ i. On i ps ≡ On i qs) here both.0)
          (cases_lt k j);
    }

-- ---- from frames back

map_same : {X Y : Type 0} (f : X → Y) (d : Y) (P : X → Type 0) → ((x y : X) → P x → P y → f x ≡ f y → x ≡ y) → (xs ys : List X) → AllByRecursion P xs → AllByRecursion P ys → map f xs ≡ map f ys → xs ≡ ys
map_same f d P same [] [] p q e = refl
map_same f d P same [] (y ∷ ys) p q e = let n = ap length e in absurd (omega arith)
map_same f d P same (x ∷ xs) [] p q e = let n = ap length e in absurd (omega arith)
map_same f d P same (x ∷ xs) (y ∷ ys) p q e =
    ap (λ z. z ∷ xs) (same x y p.0 q.0 (ap (λ l. get_or l 0 d) e)) ∙ ap (λ l. y ∷ l) (map_same f d P same xs ys p.1 q.1 (ap (λ l. drop 1 l) e))

-- how many rules a page rests on
count : Page → ℕ
count p = length p.rules

-- a page that is formed, on k rules
OnExactly : List Rule → ℕ → Page → Type 0
OnExactly rules k p = PageFormed rules p × (count p ≡ k)

rest_one : (rules : List Rule) (k : ℕ) (p : Page) (ps : List Page) (t : Bool) → eqb (length p.rules) k ≡ t → PageFormed rules p → AllByRecursion (OnExactly rules k) ps →
    AllByRecursion (OnExactly rules k) (cond t (p ∷ ps) ps)
unfolding OnExactly count
rest_one rules k p ps true e f h = ((f, eqb-true (length p.rules) k e), h)
rest_one rules k p ps false e f h = h

all_resting : (rules : List Rule) (k : ℕ) (ps : List Page) → AllByRecursion (PageFormed rules) ps → AllByRecursion (OnExactly rules k) (resting k ps)
all_resting rules k [] h = tt
all_resting rules k (p ∷ ps) h = rest_one rules k p (resting k ps) (eqb (length p.rules) k) refl h.0 (all_resting rules k ps h.1)

resting_same : (rules : List Rule) (k : ℕ) (ps qs : List Page) → AllByRecursion (PageFormed rules) ps → AllByRecursion (PageFormed rules) qs → On k ps ≡ On k qs → resting k ps ≡ resting k qs
unfolding On OnExactly count
resting_same rules k ps qs f g e =
    map_same page_frame (a_header 0) (OnExactly rules k) (λ p q m n s. page_same rules k p q m.0 n.0 m.1 n.1 s) (resting k ps) (resting k qs) (all_resting rules k ps f) (all_resting rules k qs g) e

-- no page rests on more rules than there are
no_more : (rules : List Rule) (k : ℕ) (ps : List Page) → length rules < k → AllByRecursion (PageFormed rules) ps → resting k ps ≡ []
no_more rules k [] l h = refl
no_more rules k (p ∷ ps) l h =
    let n = ap length h.0.front ∙ length-take (length p.rules) rules in
    let other : eqb (length p.rules) k ≡ false = ne_eqb (length p.rules) k (λ e. omega arith) in
    ap (λ t. cond t (p ∷ resting k ps) (resting k ps)) other ∙ no_more rules k ps l h.1

-- ---- pages in order are known by those on each number of rules

here : (p : Page) (ps : List Page) → resting (length p.rules) (p ∷ ps) ≡ p ∷ resting (length p.rules) ps
here p ps = ap (λ t. cond t (p ∷ resting (length p.rules) ps) (resting (length p.rules) ps)) (eq-eqb (length p.rules) (length p.rules) refl)

none_below : (k : ℕ) (ps : List Page) → AllByRecursion (λ q. k < length q.rules) ps → resting k ps ≡ []
none_below k [] h = refl
none_below k (p ∷ ps) h =
    let l = h.0 in
    let other : eqb (length p.rules) k ≡ false = ne_eqb (length p.rules) k (λ e. omega arith) in
    ap (λ t. cond t (p ∷ resting k ps) (resting k ps)) other ∙ none_below k ps h.1

all_above : (k n : ℕ) (ps : List Page) → k < n → AllByRecursion (λ q. n ≤ length q.rules) ps → AllByRecursion (λ q. k < length q.rules) ps
all_above k n [] l h = tt
all_above k n (p ∷ ps) l h = let m = h.0 in (omega arith, all_above k n ps l h.1)

not_first : (p q : Page) (ps qs : List Page) → length p.rules < length q.rules → AllByRecursion (λ x. length q.rules ≤ length x.rules) qs →
    resting (length p.rules) (p ∷ ps) ≡ resting (length p.rules) (q ∷ qs) → ⊥
not_first p q ps qs l r e =
    let k = length p.rules in
    let none = none_below k (q ∷ qs) (l, all_above k (length q.rules) qs l r) in
    let n = ap length (sym (here p ps) ∙ e ∙ none) in omega arith

tails : (t : Bool) (p : Page) (xs ys : List Page) → cond t (p ∷ xs) xs ≡ cond t (p ∷ ys) ys → xs ≡ ys
tails true p xs ys e = ap (λ l. drop 1 l) e
tails false p xs ys e = e

rising_same : (ps qs : List Page) → Rising ps → Rising qs → ((k : ℕ) → resting k ps ≡ resting k qs) → ps ≡ qs
rising_same [] [] r s e = refl
rising_same [] (q ∷ qs) r s e = let n = ap length (e (length q.rules) ∙ here q qs) in absurd (omega arith)
rising_same (p ∷ ps) [] r s e = let n = ap length (sym (here p ps) ∙ e (length p.rules)) in absurd (omega arith)
rising_same (p ∷ ps) (q ∷ qs) r s e = ⊎_elim
    (λ (same : length p.rules ≡ length q.rules).
    let k = length q.rules in
    let both = sym (here p ps) ∙ e (length p.rules) ∙ ap (λ i. resting i (q ∷ qs)) same ∙ here q qs in
    let first : p ≡ q = ap (λ l. get_or l 0 p) both in
    ap (λ x. x ∷ ps) first ∙ ap (λ l. q ∷ l) (rising_same ps qs r.1 s.1 (λ i. tails (eqb (length q.rules) i) q (resting i ps) (resting i qs) (ap (λ x. resting i (x ∷ ps)) (sym first) ∙ e i))))
    (λ other. absurd (⊎_elim
    (λ (l : length p.rules < length q.rules). not_first p q ps qs l s.0 (e (length p.rules)))
    (λ (l : length q.rules < length p.rules). not_first q p qs ps l r.0 (sym (e (length q.rules))))
    other))
    (cases_order (length p.rules) (length q.rules))

-- ---- the whole

frames_parts : (c d : ℕ) (a b : Account) → frames_of c a ≡ frames_of d b → (c ≡ d) × (inner 0 a.rules a.pages ≡ inner 0 b.rules b.pages)
unfolding frames_of
frames_parts c d a b e =
    let first = ap (λ l. spelled (get_or l 0 (a_header 0))) e in (
      two_same c d (ap (λ l. get_or l 1 0) first) (ap (λ l. get_or l 2 0) first),
      (same_from_push (inner 0 a.rules a.pages) (inner 0 b.rules b.pages) (a_trailer (length a.rules) (length a.pages)) (a_trailer (length b.rules) (length b.pages))
          (ap (λ l. drop 1 l) e)).0,
    )

pages_same : (rules others : List Rule) (ps qs : List Page) → AllByRecursion (PageFormed rules) ps → AllByRecursion (PageFormed rules) qs → Rising ps → Rising qs → Agree 0 rules others ps qs → ps ≡ qs
pages_same rules others ps qs f g r s agree = rising_same ps qs r s (λ k. ⊎_elim
    (λ (less : length rules < k). no_more rules k ps less f ∙ sym (no_more rules k qs less g))
    (λ (most : k ≤ length rules). resting_same rules k ps qs f g (agree.pages k (omega arith) (omega arith)))
    (cases_lt (length rules) k))

pub one_book : SpellsOneBook
unfolding text_of
one_book c d a b f g e =
    let parts = frames_parts c d a b (lines_same (frames_of c a) (frames_of d b) e) in
    let agree = inner_same 0 a.rules b.rules a.pages b.pages parts.1 in
    let rules : a.rules ≡ b.rules = map_same rule_frame (a_header 0) RuleFormed rule_same a.rules b.rules f.rules g.rules agree.rules in
    let pages = pages_same a.rules b.rules a.pages b.pages f.pages (subst (λ rs. AllByRecursion (PageFormed rs) b.pages) (sym rules) g.pages) f.rising g.rising agree in
    let made : List Rule → List Page → Account = λ rs ps. record { rules = rs; pages = ps } in
    (parts.0, ap (λ rs. made rs a.pages) rules ∙ ap (made b.rules) pages)
