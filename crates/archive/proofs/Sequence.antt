-- The lines of a text in their order.
use Rattle.std.proofs.Common.{◌≡◌, ℕ, ◌+◌, ◌<◌, ◌≤◌, min, Bool, true, false, cond, eqb, List, [], ◌∷◌, ◌++◌, map, length, get_or, drop, sym, refl, ap, ◌∙◌, append_assoc, append-nil}
use Rattle.std.proofs.lemmas.List.{drop_more, drop_all, length-take, length-map}
use Rattle.std.proofs.lemmas.Bool.{cond-true, cond-false}
use Rattle.answer_sets.specs.Rules as meant
use Rattle.rules.specs.Shapes.{rule_of, rules_of}
use Rattle.rules.specs.declared.rule.Rule.{Rule}
use Rattle.account.specs.Account as plain
use Rattle.account.specs.Account.{Account}
use Rattle.book.specs.View.{page_of}
use Rattle.book.specs.declared.page.Page.{Page}
use Rattle.hexlines.specs.Hex.{line}
use Rattle.frames.specs.Frames.{Frame, spelled, a_header, a_trailer}
use Rattle.archive.specs.Text.{rule_frame, page_frame, resting, inner, frames_of, lines, text_of}
use Rattle.archive.specs.Writing.{Puts, lines_on}
use Rattle.archive.proofs.Over.{puts_none, puts_same, puts_then}

lines_append : (fs gs : List Frame) → lines (fs ++ gs) ≡ lines fs ++ lines gs
lines_append [] gs = refl
lines_append (f ∷ fs) gs = ap (λ l. line (spelled f) ++ l) (lines_append fs gs) ∙ sym (append_assoc (line (spelled f)) (lines fs) (lines gs))

-- a page is spelled the same whatever rules it rests on
pub page_frame_alone : (rules : List meant.Rule) (p : Page) → page_frame (page_of [] p) ≡ page_frame (page_of rules p)
unfolding page_frame
page_frame_alone rules p = refl

pub lines_on_none : (k : ℕ) → lines_on k [] ≡ []
unfolding lines_on
lines_on_none k = refl

one_more : (t : Bool) (p : plain.Page) (all xs ys : List plain.Page) → lines (map page_frame all) ≡ lines (map page_frame xs) ++ lines (map page_frame ys) →
    lines (map page_frame (cond t (p ∷ all) all)) ≡ lines (map page_frame (cond t (p ∷ xs) xs)) ++ lines (map page_frame ys)
one_more true p all xs ys e = ap (λ l. line (spelled (page_frame p)) ++ l) e ∙ sym (append_assoc (line (spelled (page_frame p))) (lines (map page_frame xs)) (lines (map page_frame ys)))
one_more false p all xs ys e = e

pub lines_on_append : (k : ℕ) (xs ys : List plain.Page) → lines_on k (xs ++ ys) ≡ lines_on k xs ++ lines_on k ys
unfolding lines_on
lines_on_append k [] ys = refl
lines_on_append k (p ∷ xs) ys = one_more (eqb (length p.rules) k) p (resting k (xs ++ ys)) (resting k xs) (resting k ys) (lines_on_append k xs ys)

-- one page, which rests on k rules or on another number
pub lines_on_yes : (k : ℕ) (p : plain.Page) → eqb (length p.rules) k ≡ true → line (spelled (page_frame p)) ≡ lines_on k (p ∷ [])
unfolding lines_on
lines_on_yes k p e = sym (ap (λ l. lines (map page_frame l)) (cond-true (eqb (length p.rules) k) (p ∷ []) [] e) ∙ append-nil (line (spelled (page_frame p))))

pub lines_on_no : (k : ℕ) (p : plain.Page) → eqb (length p.rules) k ≡ false → [] ≡ lines_on k (p ∷ [])
unfolding lines_on
lines_on_no k p e = sym (ap (λ l. lines (map page_frame l)) (cond-false (eqb (length p.rules) k) (p ∷ []) [] e))

-- how many rules a page rests on
pub rests : (rules : List Rule) (p : Page) (k : ℕ) (t : Bool) → t ≡ eqb (min p.rules (length rules)) k → eqb (length (page_of (rules_of rules) p).rules) k ≡ t
rests rules p k t e =
    ap (λ n. eqb n k) (length-take p.rules (rules_of rules) ∙ ap (min p.rules) (length-map rules rule_of)) ∙ sym e

inner_last : (k : ℕ) (rest : List meant.Rule) (pages : List plain.Page) → rest ≡ [] → lines (inner k rest pages) ≡ lines_on k pages
unfolding inner lines_on
inner_last k rest pages e = ap (λ l. lines (inner k l pages)) e

inner_rule : (k : ℕ) (r : meant.Rule) (rest : List meant.Rule) (pages : List plain.Page) →
    lines (inner k (r ∷ rest) pages) ≡ lines_on k pages ++ (line (spelled (rule_frame r)) ++ lines (inner (k + 1) rest pages))
unfolding inner lines_on
inner_rule k r rest pages = lines_append (map page_frame (resting k pages)) (rule_frame r ∷ inner (k + 1) rest pages)

pub text_parts : (count : ℕ) (a : Account) →
    text_of count a ≡ (line (spelled (a_header count)) ++ lines (inner 0 a.rules a.pages)) ++ line (spelled (a_trailer (length a.rules) (length a.pages)))
unfolding text_of frames_of
text_parts count a =
    let middle = inner 0 a.rules a.pages in
    let last = a_trailer (length a.rules) (length a.pages) in
    ap (λ l. line (spelled (a_header count)) ++ l) (lines_append middle (last ∷ []) ∙ ap (λ l. lines middle ++ l) (append-nil (line (spelled last))))
    ∙ sym (append_assoc (line (spelled (a_header count))) (lines middle) (line (spelled last)))

-- what was put so far, and what is still to come of the rules and the pages among them
pub record Sofar (before : List ℕ) (at : ℕ) (k : ℕ) (rules : List meant.Rule) (pages : List plain.Page) (after : List ℕ) (end : ℕ) : Type 0 where
  pub text : List ℕ
  pub puts : Puts before at text after end
  pub left : text ++ lines (inner k (drop k rules) pages) ≡ lines (inner 0 rules pages)

pub sofar_none : (before : List ℕ) (at : ℕ) (rules : List meant.Rule) (pages : List plain.Page) → Sofar before at 0 rules pages before at
sofar_none before at rules pages = record { text = []; puts = puts_none before at; left = refl }

pub sofar_more : (before after mid later : List ℕ) (at k end between next : ℕ) (rules : List meant.Rule) (pages : List plain.Page) (r : meant.Rule) → k < length rules →
    get_or rules k r ≡ r → Sofar before at k rules pages after end → Puts after end (lines_on k pages) mid between → Puts mid between (line (spelled (rule_frame r))) later next →
    Sofar before at (k + 1) rules pages later next
sofar_more before after mid later at k end between next rules pages r l here s p q =
    let some : drop k rules ≡ r ∷ drop (k + 1) rules = drop_more rules k r l ∙ ap (λ x. x ∷ drop (k + 1) rules) here in
    let rest = lines (inner (k + 1) (drop (k + 1) rules) pages) in
    record {
      text = (s.text ++ lines_on k pages) ++ line (spelled (rule_frame r));
      puts = puts_then before mid later at between next (s.text ++ lines_on k pages) (line (spelled (rule_frame r))) (puts_then before after mid at end between s.text (lines_on k pages) s.puts p) q;
      left = append_assoc (s.text ++ lines_on k pages) (line (spelled (rule_frame r))) rest ∙ append_assoc s.text (lines_on k pages) (line (spelled (rule_frame r)) ++ rest)
          ∙ ap (λ x. s.text ++ x) (sym (inner_rule k r (drop (k + 1) rules) pages) ∙ ap (λ x. lines (inner k x pages)) (sym some)) ∙ s.left;
    }

pub sofar_all : (before after later : List ℕ) (at k end last : ℕ) (rules : List meant.Rule) (pages : List plain.Page) → length rules ≤ k →
    Sofar before at k rules pages after end → Puts after end (lines_on k pages) later last → Puts before at (lines (inner 0 rules pages)) later last
sofar_all before after later at k end last rules pages l s p =
    let done : s.text ++ lines_on k pages ≡ lines (inner 0 rules pages) = ap (λ x. s.text ++ x) (sym (inner_last k (drop k rules) pages (drop_all k rules l))) ∙ s.left in
    puts_same before at (s.text ++ lines_on k pages) (lines (inner 0 rules pages)) later last done (puts_then before after later at end last s.text (lines_on k pages) s.puts p)
