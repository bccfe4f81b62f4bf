-- Rules and pages are known by their frames.
use Rattle.std.proofs.Common.{◌≡◌, ℕ, ◌+◌, ◌%◌, ◌^◌, ◌<◌, Bool, true, false, cond, eqb, List, [], ◌∷◌, map, length, get_or, take, drop, sym, refl, ap, ◌∙◌, subst, ⊎_elim, arith}
use Rattle.std.specs.List.{AllByRecursion}
use Rattle.std.proofs.lemmas.List.{ext_get_or}
use Rattle.std.proofs.lemmas.Bool.{cases_Bool, eqb-true, or_cases}
use Rattle.sets.specs.Sets.{has}
use Rattle.sets.specs.Lists.{member}
use Rattle.sets.specs.Walks.{decisions}
use Rattle.sets.proofs.Listing.{decisions_listed}
use Rattle.answer_sets.specs.Rules.{Way, Head, decision, no_head, Entry, Rule, Ranked, rank}
use Rattle.account.specs.Account.{Page}
use Rattle.frames.specs.Frames.{spelled}
use Rattle.frames.proofs.Known.{two_same, way_same, eight_same}
use Rattle.answer_sets.specs.Naming.{head_number}
use Rattle.answer_sets.specs.Naming.{entry_number}
use Rattle.archive.specs.Text.{body_bytes, rule_frame, page_frame}
use Rattle.archive.specs.Formed.{HeadFormed, RuleFormed, PageFormed}

head_same : (g h : Head) → HeadFormed g → HeadFormed h → head_number g ≡ head_number h → g ≡ h
head_same (decision c) (decision d) k l e = ap decision e
head_same (decision c) no_head k l e = absurd (omega arith)
head_same no_head (decision d) k l e = absurd (omega arith)
head_same no_head no_head k l e = refl

entry_by : (s t : Bool) (a b : ℕ) → a < 32768 → b < 32768 → a % 32768 + cond s 32768 0 ≡ b % 32768 + cond t 32768 0 → (a ≡ b) × (s ≡ t)
entry_by true true a b k l e = (omega arith, refl)
entry_by true false a b k l e = absurd (omega arith)
entry_by false true a b k l e = absurd (omega arith)
entry_by false false a b k l e = (omega arith, refl)

entry_same : (d e : Entry) → d.condition < 32768 → e.condition < 32768 → entry_number d ≡ entry_number e → d ≡ e
entry_same d e k l s =
    let both = entry_by d.negated e.negated d.condition e.condition k l s in
    let made : ℕ → Bool → Entry = λ c n. record { condition = c; negated = n } in
    ap (λ c. made c d.negated) both.0 ∙ ap (made e.condition) both.1

body_same : (bs cs : List Entry) → AllByRecursion (λ e. e.condition < 32768) bs → AllByRecursion (λ e. e.condition < 32768) cs → body_bytes bs ≡ body_bytes cs → bs ≡ cs
body_same [] [] k l e = refl
body_same [] (c ∷ cs) k l e = let n = ap length e in absurd (omega arith)
body_same (b ∷ bs) [] k l e = let n = ap length e in absurd (omega arith)
body_same (b ∷ bs) (c ∷ cs) k l e =
    let number = two_same (entry_number b) (entry_number c) (ap (λ x. get_or x 0 0) e) (ap (λ x. get_or x 1 0) e) in
    ap (λ x. x ∷ bs) (entry_same b c k.0 l.0 number) ∙ ap (λ x. c ∷ x) (body_same bs cs k.1 l.1 (ap (λ x. drop 2 x) e))

pub rule_same : (r s : Rule) → RuleFormed r → RuleFormed s → rule_frame r ≡ rule_frame s → r ≡ s
unfolding rule_frame
rule_same r s f g same =
    let e = ap spelled same in
    let head = head_same r.head s.head f.head g.head (ap (λ x. get_or x 1 0) e) in
    let body = body_same r.body s.body f.named g.named (ap (λ x. drop 3 x) e) in
    let made : Head → List Entry → Rule = λ h b. record { head = h; body = b } in
    ap (λ h. made h r.body) head ∙ ap (made s.head) body

-- where the ranks of some decisions are the same, so is that of each
each_same : (ranks others ds : List ℕ) → map (rank ranks) ds ≡ map (rank others) ds → (d : ℕ) → member d ds ≡ true → rank ranks d ≡ rank others d
each_same ranks others [] e d m = let z : ◌≡◌ {A = Bool} false true = m in let y : ◌≡◌ {A = ℕ} 0 1 = cc in absurd (omega arith)
each_same ranks others (x ∷ ds) e d m = ⊎_elim
    (λ here. let same = eqb-true x d here in subst (λ k. rank ranks k ≡ rank others k) same (ap (λ l. get_or l 0 0) e))
    (λ there. each_same ranks others ds (ap (λ l. drop 1 l) e) d there)
    (or_cases (eqb x d) (member d ds) m)

ranks_same : (s : ℕ) (ranks others : List ℕ) → s < 2 ^ 64 → Ranked s ranks → Ranked s others → map (rank ranks) (decisions s) ≡ map (rank others) (decisions s) → ranks ≡ others
ranks_same s ranks others small r o e =
    let n = r.places in
    ext_get_or 0 ranks others (r.places ∙ sym o.places) (λ d l. ⊎_elim
    (λ m. each_same ranks others (decisions s) e d ((decisions_listed.exactly s d small).1 m))
    (λ m. r.outside d (omega arith) m ∙ sym (o.outside d (omega arith) m))
    (cases_Bool (has s d)))

-- pages on the same number of the same rules
pub page_same : (rules : List Rule) (k : ℕ) (p q : Page) → PageFormed rules p → PageFormed rules q → length p.rules ≡ k → length q.rules ≡ k → page_frame p ≡ page_frame q → p ≡ q
unfolding page_frame
page_same rules k p q f g m n spell =
    let e = ap spelled spell in
    let way = way_same p.way q.way (ap (λ x. get_or x 1 0) e) in
    let parts = eight_same p.«set» q.«set» (map (rank p.ranks) (decisions p.«set»)) (map (rank q.ranks) (decisions q.«set»)) (ap (λ x. drop 2 x) e) in
    let same = parts.0 in
    let ranks = ranks_same q.«set» p.ranks q.ranks g.small (subst (λ s. Ranked s p.ranks) same f.ranked) g.ranked
    (ap (λ s. map (rank p.ranks) (decisions s)) (sym same) ∙ parts.1) in
    let front : p.rules ≡ q.rules = f.front ∙ ap (λ i. take i rules) (m ∙ sym n) ∙ sym g.front in
    let made : Way → ℕ → List ℕ → List Rule → Page = λ w s t u. record { way = w; «set» = s; ranks = t; rules = u } in
    ap (λ w. made w p.«set» p.ranks p.rules) way ∙ ap (λ s. made q.way s p.ranks p.rules) same
    ∙ ap (λ t. made q.way q.«set» t p.rules) ranks ∙ ap (made q.way q.«set» q.ranks) front
