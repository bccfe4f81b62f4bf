-- What a call answers, and the account that it leaves, follow from the account before and the call.
use Rattle.std.proofs.Common.{◌≡◌, ℕ, ◌<◌, ◌≤◌, ◌⊎◌, List, [], ◌∷◌, ◌++◌, length, sym, refl, ap, ◌∙◌, subst, inl, inr, ⊎_elim, arith}
use Rattle.std.proofs.lemmas.List.{ext_get_or, same_from_push}
use Rattle.std.proofs.lemmas.Bool.{cases_lt}
use Rattle.banks.specs.Meaning.{Meaning}
use Rattle.answer_sets.specs.Rules.{Way, Rule, no_head, rank, LowestBroken}
use Rattle.answer_sets.specs.Rounds.{Rounds}
use Rattle.account.specs.Account.{Account, Call, enter, withdraw, file, lodge, accepted, refused, NotPaged, Fits, PagesWith, Done, Step, Run}
use Rattle.account.specs.Laws.{StepDetermined, RunDetermined}

-- accounts with the same rules and pages are the same
pub account_same : (y z : Account) → y.rules ≡ z.rules → y.pages ≡ z.pages → y ≡ z
account_same y z e f k = record { rules = e k; pages = f k }

-- ---- the values told

-- of two lowest rules broken none comes first, since it would be both kept and broken
not_lower : (m : Meaning) (rules : List Rule) (M i j : ℕ) → LowestBroken m rules M i → LowestBroken m rules M j → i < j → ⊥
not_lower m rules M i j p q l =
    let any : Rule = record { head = no_head; body = [] } in
    p.1 any (q.2 i l any)

-- the lowest rule that a set breaks is one
pub lowest_same : (m : Meaning) (rules : List Rule) (M i j : ℕ) → LowestBroken m rules M i → LowestBroken m rules M j → i ≡ j
lowest_same m rules M i j p q = ⊎_elim
    (λ (l : i < j). absurd (not_lower m rules M i j p q l))
    (λ (l : j ≤ i). ⊎_elim
    (λ (k : j < i). absurd (not_lower m rules M j i q p k))
    (λ (k : i ≤ j). omega arith)
    (cases_lt j i))
    (cases_lt i j)

-- the set that a call hands in; the other calls have none
set_of : Call → ℕ
set_of (enter h body) = 0
set_of withdraw = 0
set_of (file w M) = M
set_of (lodge w M ranks) = M

-- what a refusal tells: refusal 23 the lowest rule broken, any other nothing
Tells : Meaning → Account → ℕ → ℕ → List ℕ → Type 0
Tells m a M n told =
    ((n ≡ 23 → ⊥) × (told ≡ []))
    ⊎ ((n ≡ 23) × ((i : ℕ) × (told ≡ i ∷ []) × LowestBroken m a.rules M i))

-- a set that cannot be paged: the refusal tells so
not_paged_tells : (m : Meaning) (a : Account) (M n : ℕ) (told : List ℕ) → NotPaged m a M n told → Tells m a M n told
unfolding Tells
not_paged_tells m a M n told (inl (e, t, g)) = inl (λ k. omega arith, t)
not_paged_tells m a M n told (inr (i, (e, t, g))) = inr (e, (i, t, g))

-- every refusal that fits a call tells so
fits_tells : (m : Meaning) (a : Account) (c : Call) (n : ℕ) (told : List ℕ) → Fits m a c n told → Tells m a (set_of c) n told
unfolding Tells set_of
fits_tells m a (enter h body) n told (inl (e, t, g)) = inl (λ k. omega arith, t)
fits_tells m a (enter h body) n told (inr (inl (e, t, g))) = inl (λ k. omega arith, t)
fits_tells m a (enter h body) n told (inr (inr (inl (e, t, g)))) = inl (λ k. omega arith, t)
fits_tells m a (enter h body) n told (inr (inr (inr (e, t, g)))) = inl (λ k. omega arith, t)
fits_tells m a withdraw n told (inl (e, t, g)) = inl (λ k. omega arith, t)
fits_tells m a withdraw n told (inr (e, t, g)) = inl (λ k. omega arith, t)
fits_tells m a (file w M) n told (inl p) = not_paged_tells m a M n told p
fits_tells m a (file w M) n told (inr (e, t, g)) = inl (λ k. omega arith, t)
fits_tells m a (lodge w M ranks) n told (inl (e, t, g)) = inl (λ k. omega arith, t)
fits_tells m a (lodge w M ranks) n told (inr (inl p)) = not_paged_tells m a M n told p
fits_tells m a (lodge w M ranks) n told (inr (inr (e, t, g))) = inl (λ k. omega arith, t)

-- what is told so is one list
tells_same : (m : Meaning) (a : Account) (M n : ℕ) (t u : List ℕ) → Tells m a M n t → Tells m a M n u → t ≡ u
unfolding Tells
tells_same m a M n t u (inl (x, e)) (inl (y, f)) = e ∙ sym f
tells_same m a M n t u (inl (x, e)) (inr (y, w)) = absurd (x y)
tells_same m a M n t u (inr (x, w)) (inl (y, f)) = absurd (y x)
tells_same m a M n t u (inr (x, (i, e, p))) (inr (y, (j, f, q))) =
    e ∙ ap (λ (k : ℕ). k ∷ []) (lowest_same m a.rules M i j p q) ∙ sym f

-- a refusal's number says what it tells
pub told_same : (m : Meaning) (a : Account) (c : Call) (n : ℕ) (t u : List ℕ) → Fits m a c n t → Fits m a c n u → t ≡ u
told_same m a c n t u p q = tells_same m a (set_of c) n t u (fits_tells m a c n t p) (fits_tells m a c n u q)

-- ---- what an accepted call leaves

-- the rounds are one list of ranks
pub rounds_same : (m : Meaning) (w : Way) (rules : List Rule) (M : ℕ) (r s : List ℕ) → Rounds m w rules M r → Rounds m w rules M s → r ≡ s
rounds_same m w rules M r s p q =
    ext_get_or 0 r s (p.bear.ranked.places ∙ sym q.bear.ranked.places)
    (λ d l.
    let up : rank r d ≤ rank s d = p.least s q.bear d in
    let down : rank s d ≤ rank r d = q.least r p.bear d in
    omega arith)

-- the same page added leaves the same account
pages_same : (a : Account) (w : Way) (M : ℕ) (r s : List ℕ) (y z : Account) → r ≡ s → PagesWith a w M r y → PagesWith a w M s z → y ≡ z
pages_same a w M r s y z e p q =
    account_same y z (p.0 ∙ sym q.0)
    (p.1 ∙ ap (λ (x : List ℕ). a.pages ++ record { way = w; «set» = M; ranks = x; rules = a.rules } ∷ []) e ∙ sym q.1)

-- an accepted call answers one number and leaves one account
pub done_same : (m : Meaning) (a : Account) (c : Call) (n k : ℕ) (y z : Account) → Done m a c n y → Done m a c k z → (n ≡ k) × (y ≡ z)
done_same m a (enter h body) n k y z p q =
    (p.0 ∙ sym q.0, account_same y z (p.1 ∙ sym q.1) (p.2 ∙ sym q.2))
done_same m a withdraw n k y z p q =
    let e = (same_from_push y.rules z.rules p.0.0 q.0.0 (sym p.0.1 ∙ q.0.1)).0 in
    (p.1 ∙ ap length e ∙ sym q.1, account_same y z e (p.2 ∙ sym q.2))
done_same m a (file w M) n k y z p q =
    let e = rounds_same m w a.rules M p.1.0 q.1.0 p.1.1 q.1.1 in
    (p.0 ∙ sym q.0, pages_same a w M p.1.0 q.1.0 y z e p.1.2 q.1.2)
done_same m a (lodge w M ranks) n k y z p q =
    (p.0 ∙ sym q.0, pages_same a w M ranks ranks y z refl p.2 q.2)

-- ---- the laws

-- one call has one answer, and leaves one account
pub step_determined : StepDetermined
unfolding Step
step_determined m a c (accepted n) (accepted k) y z p q =
    let e = done_same m a c n k y z p.1 q.1 in
    (ap accepted e.0, e.1)
step_determined m a c (accepted n) (refused k told) y z p q = absurd (p.0 k told q.0.0)
step_determined m a c (refused n told) (accepted k) y z p q = absurd (q.0 n told p.0.0)
step_determined m a c (refused n told) (refused k others) y z p q =
    let l : n ≤ k = p.0.1 k others q.0.0 in
    let g : k ≤ n = q.0.1 n told p.0.0 in
    let e : n ≡ k = omega arith in
    let t : told ≡ others = told_same m a c n told others p.0.0 (subst (λ (x : ℕ). Fits m a c x others) (sym e) q.0.0) in
    (λ i. refused (e i) (t i), p.1 ∙ sym q.1)

-- and so have calls one after another
pub run_determined : RunDetermined
run_determined m a [] [] [] y z p q = (refl, p ∙ sym q)
run_determined m a [] [] (s ∷ ss) y z p q = absurd q
run_determined m a [] (r ∷ rs) ss y z p q = absurd p
run_determined m a (c ∷ cs) [] ss y z p q = absurd p
run_determined m a (c ∷ cs) (r ∷ rs) [] y z p q = absurd q
run_determined m a (c ∷ cs) (r ∷ rs) (s ∷ ss) y z p q =
    let e = step_determined m a c r s p.0 q.0 p.1 q.1 in
    let f = run_determined m p.0 cs rs ss y z p.2 (subst (λ (x : Account). Run m x cs ss z) (sym e.1) q.2) in
    (λ i. e.0 i ∷ f.0 i, f.1)
