-- An account stays within its limits, and its pages stay borne and rest on the first of its rules.
use Rattle.std.proofs.Common.{◌≡◌, ℕ, ◌<◌, ◌≤◌, ◌⊎◌, List, [], ◌∷◌, ◌++◌, length, take, sym, refl, ap, ◌∙◌, subst, inl, inr, ⊎_elim, arith}
use native.Mathlib.Nat.{min-le_right}
use Rattle.std.specs.List.{AllByRecursion}
use Rattle.std.proofs.lemmas.List.{length-take, length_push, take_all, take-append-le, same_from_push}
use Rattle.std.proofs.ByRecursion.{All-weaker, All-push}
use Rattle.std.proofs.lemmas.Bool.{cases_lt}
use Rattle.banks.specs.Meaning.{Meaning}
use Rattle.answer_sets.specs.Rules.{Way, Rule, Bears}
use Rattle.answer_sets.proofs.Each.{all_zip}
use Rattle.account.specs.Limits.{max_rules, max_pages}
use Rattle.answer_sets.specs.Naming.{rule_named}
use Rattle.account.specs.Account.{Page, Account, blank, Call, enter, withdraw, file, lodge, Answer, accepted, refused, Fits, PagesWith, Step, Run}
use Rattle.account.proofs.Exact.{room}
use Rattle.account.specs.Kept.{PageBorne, Front, NoLonger, Kept, StepKept, RunKept}

-- ---- fronts

-- a front is no longer than the list
pub front_length : (rules : List Rule) (p : Page) → Front rules p → length p.rules ≤ length rules
front_length rules p f =
    let e : length p.rules ≡ length (take (length p.rules) rules) = ap length f in
    let t = length-take (length p.rules) rules in
    let l = min-le_right (length p.rules) (length rules) in
    omega arith

-- it stays a front where a rule is added
front_more : (rules : List Rule) (r : Rule) (p : Page) → Front rules p → Front (rules ++ r ∷ []) p
front_more rules r p f = f ∙ sym (take-append-le (length p.rules) rules (r ∷ []) (front_length rules p f))

-- and where the last rule is taken away, if it is shorter than the list
front_less : (rules : List Rule) (r : Rule) (p : Page) → Front (rules ++ r ∷ []) p → length p.rules ≤ length rules → Front rules p
front_less rules r p f l = f ∙ take-append-le (length p.rules) rules (r ∷ []) l

-- a list is empty or has a last element
last_of : {X : Type 0} (xs : List X) → (xs ≡ []) ⊎ ((before : List X) × (last : X) × (xs ≡ before ++ last ∷ []))
last_of [] = inl refl
last_of (x ∷ xs) = ⊎_elim
    (λ (e : xs ≡ []). inr ([], x, ap (λ l. x ∷ l) e))
    (λ w. inr (x ∷ w.0, w.1, ap (λ l. x ∷ l) w.2))
    (last_of xs)

-- what holds of all holds of the last
last_element : {X : Type 0} (P : X → Type 0) (xs : List X) (x : X) → AllByRecursion P (xs ++ x ∷ []) → P x
last_element P [] x h = h.0
last_element P (y ∷ ys) x h = last_element P ys x h.1

-- ---- one call

-- the same pages over other rules
same_pages : (m : Meaning) (a z : Account) → Kept m a → length z.rules ≤ max_rules → z.pages ≡ a.pages → AllByRecursion (Front z.rules) a.pages → Kept m z
same_pages m a z k l e f = record {
  few_rules = l;
  few_pages = let n = k.few_pages in let g = ap length e in omega arith;
  borne = subst (AllByRecursion (PageBorne m)) (sym e) k.borne;
  fronts = subst (AllByRecursion (Front z.rules)) (sym e) f;
  longest = λ before last g. subst (AllByRecursion (NoLonger last)) (sym e) (k.longest before last (sym e ∙ g));
}

-- the page that is added
abbrev new : Account → Way → ℕ → List ℕ → Page
new a w M ranks = record { way = w; «set» = M; ranks = ranks; rules = a.rules }

-- a page that is borne is added
more_pages : (m : Meaning) (a : Account) (w : Way) (M : ℕ) (ranks : List ℕ) (z : Account) → Kept m a → length a.pages < max_pages → Bears m w a.rules M ranks → PagesWith a w M ranks z → Kept m z
more_pages m a w M ranks z k free b (same, more) = record {
  few_rules = let n = k.few_rules in let g = ap length same in omega arith;
  few_pages = let g = ap length more in let n = length_push a.pages (new a w M ranks) in omega arith;
  borne = subst (AllByRecursion (PageBorne m)) (sym more) (All-push (PageBorne m) a.pages (new a w M ranks) k.borne b);
  fronts =
      subst (λ (rules : List Rule). AllByRecursion (Front rules) z.pages) (sym same)
      (subst (AllByRecursion (Front a.rules)) (sym more)
      (All-push (Front a.rules) a.pages (new a w M ranks) k.fronts
      (sym (take_all (length a.rules) a.rules (omega arith)))));
  longest = λ before last g. subst (AllByRecursion (NoLonger last)) (sym more) (
      let e : last ≡ new a w M ranks = (same_from_push before a.pages last (new a w M ranks) (sym g ∙ more)).1 in
      let n : length last.rules ≡ length a.rules = ap (λ (p : Page). length p.rules) e in
      All-push (NoLonger last) a.pages (new a w M ranks)
      (All-weaker (Front a.rules) (NoLonger last) (λ p f. let l = front_length a.rules p f in omega arith) a.pages k.fronts)
      (omega arith));
}

-- the page has fewer rules than stand
abbrev Shorter : Account → Page → Type 0
Shorter a p = length p.rules < length a.rules

-- where a rule may be withdrawn, every page has fewer rules than stand
all_shorter : (m : Meaning) (a : Account) → Kept m a → ((n : ℕ) (told : List ℕ) → Fits m a withdraw n told → ⊥) → AllByRecursion (Shorter a) a.pages
all_shorter m a k free = ⊎_elim
    (λ (e : a.pages ≡ []). subst (AllByRecursion (Shorter a)) (sym e) tt)
    (λ (w : (before : List Page) × (last : Page) × (a.pages ≡ before ++ last ∷ [])).
    let apart : length w.1.rules ≡ length a.rules → ⊥ = λ e. free 26 [] (inr (refl, refl, (w.0, w.1, w.2, e))) in
    let under = last_element (Front a.rules) w.0 w.1 (subst (AllByRecursion (Front a.rules)) w.2 k.fronts) in
    let short = front_length a.rules w.1 under in
    let strict : Shorter a w.1 = ⊎_elim (λ l. l) (λ l. absurd (apart (omega arith))) (cases_lt (length w.1.rules) (length a.rules)) in
    All-weaker (NoLonger w.1) (Shorter a) (λ p l. omega arith) a.pages (k.longest w.0 w.1 w.2))
    (last_of a.pages)

-- one call leaves an account so
pub step_kept : StepKept
unfolding Step
step_kept m a c (refused n told) z k s = subst (Kept m) (sym s.1) k
step_kept m a (enter h body) (accepted n) z k (free, (e, more, same)) =
    let r = rule_named h body in
    let l = room (length a.rules) max_rules (λ g. free 21 [] (inr (inr (inr (refl, refl, g))))) in
    let long = ap length more in
    let push = length_push a.rules r in
    same_pages m a z k (omega arith) same
    (subst (λ (rules : List Rule). AllByRecursion (Front rules) a.pages) (sym more)
    (All-weaker (Front a.rules) (Front (a.rules ++ r ∷ [])) (front_more a.rules r) a.pages k.fronts))
step_kept m a withdraw (accepted n) z k (free, ((last, less), e, same)) =
    let long = ap length less in
    let push = length_push z.rules last in
    let few = k.few_rules in
    same_pages m a z k (omega arith) same
    (all_zip (Front a.rules) (Shorter a) (Front z.rules)
    (λ p f l. front_less z.rules last p (subst (λ (rules : List Rule). Front rules p) less f) (omega arith))
    a.pages k.fronts (all_shorter m a k free))
step_kept m a (file w M) (accepted n) z k (free, (e, (ranks, p, pages))) =
    more_pages m a w M ranks z k (room (length a.pages) max_pages (λ g. free 22 [] (inl (inl (refl, refl, g))))) p.bear pages
step_kept m a (lodge w M ranks) (accepted n) z k (free, (e, p, pages)) =
    more_pages m a w M ranks z k (room (length a.pages) max_pages (λ g. free 22 [] (inr (inl (inl (refl, refl, g)))))) p pages

-- ---- calls one after another

-- and so do any calls
pub run_from : (m : Meaning) (a : Account) (cs : List Call) (rs : List Answer) (z : Account) → Kept m a → Run m a cs rs z → Kept m z
run_from m a [] [] z k p = subst (Kept m) (sym p) k
run_from m a [] (r ∷ rs) z k p = absurd p
run_from m a (c ∷ cs) [] z k p = absurd p
run_from m a (c ∷ cs) (r ∷ rs) z k p = run_from m p.0 cs rs z (step_kept m a c r p.0 k p.1) p.2

-- a book just opened has no pages
pub blank_kept : (m : Meaning) → Kept m blank
blank_kept m = record { few_rules = omega arith; few_pages = omega arith; borne = tt; fronts = tt; longest = λ before last e. tt }

-- and so is what any calls on it lead to
pub run_kept : RunKept
run_kept m cs rs z p = run_from m blank cs rs z (blank_kept m) p
