-- Every account that calls lead to is that of a book that can be printed and known by its text.
use Rattle.std.proofs.Common.{◌≡◌, ℕ, ◌^◌, ◌<◌, ◌≤◌, Bool, true, false, cond, eqb, List, [], ◌∷◌, ◌++◌, map, length, sym, refl, ap, subst, inl, inr, ⊎_elim, arith}
use Rattle.std.specs.List.{AllByRecursion}
use Rattle.std.proofs.ByRecursion.{All-push, All-weaker}
use Rattle.std.proofs.lemmas.List.{length-map, get_or_past}
use Rattle.std.proofs.lemmas.Bool.{cases_lt, cases_eq, eqb-false}
use Rattle.sets.specs.Sets.{collect}
use Rattle.sets.proofs.Members.{sub_lt}
use Rattle.sets.proofs.Collecting.{collect_lt, to_collect}
use Rattle.banks.specs.Meaning.{Meaning}
use Rattle.answer_sets.specs.Rules.{decision, no_head, Rule, Ranked, rank}
use Rattle.answer_sets.proofs.Each.{all_left, all_zip}
use Rattle.account.specs.Limits.{max_body}
use Rattle.answer_sets.specs.Naming.{NamesHead, entry_named, rule_named}
use Rattle.account.specs.Account.{Page, Account, blank, Call, enter, withdraw, file, lodge, Answer, accepted, refused, Step, Run}
use Rattle.account.specs.Kept.{PageBorne, Front, Kept}
use Rattle.account.proofs.Kept.{front_length, step_kept, blank_kept}
use Rattle.archive.specs.Formed.{HeadFormed, RuleFormed, PageFormed, Rising}
use Rattle.archive.specs.Laws.{RunsFormed}

-- ---- rules

head_by : (t : Bool) (h : ℕ) → eqb h 255 ≡ t → NamesHead h → HeadFormed (cond t no_head (decision h))
head_by true h e n = tt
head_by false h e (inl l) = l
head_by false h e (inr s) = absurd (eqb-false h 255 e s)

conditions_formed : (body : List ℕ) → AllByRecursion (λ e. e.condition < 32768) (map entry_named body)
conditions_formed [] = tt
conditions_formed (n ∷ body) = (omega arith, conditions_formed body)

-- what does not fail to name a head names one
names : (h : ℕ) → ((NamesHead h → ⊥) → ⊥) → NamesHead h
names h not = ⊎_elim (λ l. inl l)
    (λ l. ⊎_elim (λ e. inr e) (λ other. absurd (not (λ n. ⊎_elim (λ k. omega arith) other n))) (cases_eq h 255))
    (cases_lt h 64)

rule_formed : (h : ℕ) (body : List ℕ) → NamesHead h → length body ≤ max_body → RuleFormed (rule_named h body)
rule_formed h body n l =
    let same = length-map body entry_named in
    record { head = head_by (eqb h 255) h refl n; short = omega arith; named = conditions_formed body }

-- ---- pages

rising_push : (ps : List Page) (p : Page) → Rising ps → AllByRecursion (λ q. length q.rules ≤ length p.rules) ps → Rising (ps ++ p ∷ [])
rising_push [] p r a = (tt, tt)
rising_push (q ∷ ps) p r a = (All-push (λ x. length q.rules ≤ length x.rules) ps p r.0 a.0, rising_push ps p r.1 a.1)

-- ranks are for decisions only
set_small : (s : ℕ) (ranks : List ℕ) → Ranked s ranks → s < 2 ^ 64
set_small s ranks r =
    let all = collect 64 (λ d. true) in
    sub_lt 64 s all (λ d m. ⊎_elim
    (λ l. to_collect 64 (λ d. true) d l refl)
    (λ l. let n = r.places in let k = (r.inside d m).0 in let z : rank ranks d ≡ 0 = get_or_past ranks d 0 (omega arith) in absurd (omega arith))
    (cases_lt d 64)) (collect_lt 64 (λ d. true))

page_formed : (m : Meaning) (rules : List Rule) (p : Page) → PageBorne m p → Front rules p → PageFormed rules p
page_formed m rules p b f = record { small = set_small p.«set» p.ranks b.ranked; ranked = b.ranked; front = f }

-- ---- calls

-- what calls keep besides
record Grown (a : Account) : Type 0 where
  rules : AllByRecursion RuleFormed a.rules
  rising : Rising a.pages

page_added : (m : Meaning) (a z : Account) (p : Page) → Kept m a → Grown a → z.rules ≡ a.rules → p.rules ≡ a.rules → z.pages ≡ a.pages ++ p ∷ [] → Grown z
page_added m a z p k g same on more =
    let n = ap length on in
    record {
      rules = subst (AllByRecursion RuleFormed) (sym same) g.rules;
      rising = subst Rising (sym more) (rising_push a.pages p g.rising
          (All-weaker (Front a.rules) (λ q. length q.rules ≤ length p.rules) (λ q f. let l = front_length a.rules q f in omega arith) a.pages k.fronts));
    }

step_grown : (m : Meaning) (a : Account) (c : Call) (r : Answer) (z : Account) → Kept m a → Grown a → Step m a c r z → Grown z
unfolding Step
step_grown m a c (refused n told) z k g s = subst Grown (sym s.1) g
step_grown m a (enter h body) (accepted n) z k g (free, (e, more, same)) =
    let named = names h (λ not. free 11 [] (inl (refl, refl, not))) in
    let short : length body ≤ max_body = ⊎_elim (λ (l : max_body < length body). absurd (free 12 [] (inr (inl (refl, refl, l))))) (λ l. l) (cases_lt max_body (length body)) in
    record {
      rules = subst (AllByRecursion RuleFormed) (sym more) (All-push RuleFormed a.rules (rule_named h body) g.rules (rule_formed h body named short));
      rising = subst Rising (sym same) g.rising;
    }
step_grown m a withdraw (accepted n) z k g (free, ((last, less), e, same)) =
    record {
      rules = all_left RuleFormed z.rules (last ∷ []) (subst (AllByRecursion RuleFormed) less g.rules);
      rising = subst Rising (sym same) g.rising;
    }
step_grown m a (file w M) (accepted n) z k g (free, (e, (ranks, p, (same, more)))) = page_added m a z (record { way = w; «set» = M; ranks = ranks; rules = a.rules }) k g same refl more
step_grown m a (lodge w M ranks) (accepted n) z k g (free, (e, p, (same, more))) = page_added m a z (record { way = w; «set» = M; ranks = ranks; rules = a.rules }) k g same refl more

run_grown : (m : Meaning) (a : Account) (cs : List Call) (rs : List Answer) (z : Account) → Kept m a → Grown a → Run m a cs rs z → Kept m z × Grown z
run_grown m a [] [] z k g p = (subst (Kept m) (sym p) k, subst Grown (sym p) g)
run_grown m a [] (r ∷ rs) z k g p = absurd p
run_grown m a (c ∷ cs) [] z k g p = absurd p
run_grown m a (c ∷ cs) (r ∷ rs) z k g p = run_grown m p.0 cs rs z (step_kept m a c r p.0 k p.1) (step_grown m a c r p.0 k g p.1) p.2

pub runs_formed : RunsFormed
runs_formed m lawful cs rs z p =
    let both = run_grown m blank cs rs z (blank_kept m) (record { rules = tt; rising = tt }) p in
    let k = both.0 in
    let few = lawful.few in
    record {
      counted = omega arith;
      few_rules = k.few_rules;
      few_pages = k.few_pages;
      rules = both.1.rules;
      pages = all_zip (PageBorne m) (Front z.rules) (PageFormed z.rules) (page_formed m z.rules) z.pages k.borne k.fronts;
      rising = both.1.rising;
    }
