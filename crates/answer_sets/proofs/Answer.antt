-- Ranks bear a set exactly where the set is an answer set as published.
use Rattle.std.proofs.Common.{◌≡◌, ℕ, zero, suc, ◌^◌, ◌<◌, Bool, true, false, cond, not, ◌⊎◌, ◌↔◌, List, [], ◌∷◌, map, filter, sym, refl, ◌∙◌, subst, inl, inr, ⊎_elim, le_trans, le_of_eq, le_refl, not-le_of_lt}
use Rattle.std.specs.List.{AllByRecursion}
use Rattle.std.proofs.lemmas.Bool.{cases_Bool, both_ways, and_parts, and_from, and_cases, and_right, eq-eqb, not-true, not-false, not_from_false, not_from_true}
use Rattle.sets.specs.Sets.{has, ◌∈◌, ◌∉◌, ◌⊆◌, ◌∩◌, inside}
use Rattle.banks.specs.Meaning.{Meaning, Always, Never}
use Rattle.answer_sets.specs.Rules.{Any, Way, reduct, complement, decision, Entry, Rule, meets, holds, Keeps, CarriedBy, Carried, Gives, rank, Borne}
use Rattle.answer_sets.specs.Published.{Atom, Clause, Program, ◌⊨◌, Fails, Satisfies, Model, Conditionally, Follows, Step, Stage, co, co_clause, complement_of, none_met, bare, reduct_of, positive, atom, clause, program}
use Rattle.answer_sets.specs.Rounds.{Rounds}
use Rattle.answer_sets.specs.Theorems.{BorneIsAnswerSet, RoundsBear, StagesExist}
use Rattle.answer_sets.specs.Tests.{derives, round}
use Rattle.sets.proofs.Members.{sub_antisym, sub_and, and_sub, and_second, member_below}
use Rattle.answer_sets.proofs.Each.{all_to, any_to, all_zip, no_any, all_join, all_left, all_right, any_split, any_left, any_right, all_of_map, all_to_map, any_of_map, any_to_map, all_of_kept, all_to_kept, any_of_kept, any_to_kept}
use Rattle.answer_sets.proofs.Core as core
use Rattle.answer_sets.proofs.Core.{round_zero, round_ranks, round_of, rank_round}
use Rattle.answer_sets.proofs.Carry.{derives_sound, derives_complete, derives_mono, derives_inside}
use Rattle.answer_sets.proofs.Bearing.{bears_of, borne_full, borne_bears, depth_64, rounds_least}

is_inside : (s t : ℕ) → s ⊆ t → inside s t ≡ true
is_inside s t h = eq-eqb (s ∩ t) s (sub_and s t h)

-- ---- conditional satisfaction is always, and never for the complement

always_of : (m : Meaning) (e : Entry) (S M : ℕ) → Conditionally S M (atom m e) → Always m e.condition S M
always_of m e S M c F q = c.1 F q.0 q.1

of_always : (m : Meaning) (e : Entry) (S M : ℕ) → S ⊆ M → Always m e.condition S M → Conditionally S M (atom m e)
of_always m e S M s c = (c (S ∩ m.domain e.condition) ((λ d h. h), and_sub S M (m.domain e.condition) s), λ I a b. c I (a, b))

never_of : (m : Meaning) (e : Entry) (S M : ℕ) → Conditionally S M (co (atom m e)) → Never m e.condition S M
never_of m e S M c F q =
    not-true (m.family e.condition F)
    (and_parts (inside F (m.domain e.condition)) (not (m.family e.condition F)) (c.1 F q.0 q.1)).1

of_never : (m : Meaning) (e : Entry) (S M : ℕ) → S ⊆ M → Never m e.condition S M → Conditionally S M (co (atom m e))
of_never m e S M s c =
    let D = m.domain e.condition in (
      and_from (inside (S ∩ D) D) (not (meets m e.condition S)) (is_inside (S ∩ D) D (and_second S D))
          (not_from_false (meets m e.condition S) (c (S ∩ D) ((λ d h. h), and_sub S M D s))),
      λ I a b. and_from (inside I D) (not (m.family e.condition I)) (is_inside I D (λ d h. and_second M D d (b d h)))
          (not_from_false (m.family e.condition I) (c I (a, b))),
    )

-- the complement of an atom fails at M exactly where the atom holds
co_fails : (M : ℕ) (A : Atom) → Fails M (co A) → M ⊨ A
co_fails M A h = ⊎_elim
    (λ (n : inside (M ∩ A.dom) A.dom ≡ false). absurd (both_ways (inside (M ∩ A.dom) A.dom) n (is_inside (M ∩ A.dom) A.dom (and_second M A.dom))))
    (λ n. not-false (A.sol (M ∩ A.dom)) n)
    (and_cases (inside (M ∩ A.dom) A.dom) (not (A.sol (M ∩ A.dom))) h)

fails_co : (M : ℕ) (A : Atom) → M ⊨ A → Fails M (co A)
fails_co M A h = and_right (inside (M ∩ A.dom) A.dom) (not (A.sol (M ∩ A.dom))) (not_from_true (A.sol (M ∩ A.dom)) h)

-- ---- a body in its two parts

abbrev plain : Entry → Bool
plain e = not e.negated

abbrev naf : Entry → Bool
naf e = e.negated

abbrev pos_of : Meaning → List Entry → List Atom
pos_of m body = map (atom m) (filter (λ e. not e.negated) body)

abbrev neg_of : Meaning → List Entry → List Atom
neg_of m body = map (atom m) (filter (λ e. e.negated) body)

pos_all : (m : Meaning) (Q : Atom → Type 0) (body : List Entry) → AllByRecursion Q (pos_of m body) → AllByRecursion (λ e. plain e ≡ true → Q (atom m e)) body
pos_all m Q body h = all_of_kept plain (λ e. Q (atom m e)) body (all_of_map (atom m) Q (filter plain body) h)

all_pos : (m : Meaning) (Q : Atom → Type 0) (body : List Entry) → AllByRecursion (λ e. plain e ≡ true → Q (atom m e)) body → AllByRecursion Q (pos_of m body)
all_pos m Q body h = all_to_map (atom m) Q (filter plain body) (all_to_kept plain (λ e. Q (atom m e)) body h)

neg_all : (m : Meaning) (Q : Atom → Type 0) (body : List Entry) → AllByRecursion Q (neg_of m body) → AllByRecursion (λ e. naf e ≡ true → Q (atom m e)) body
neg_all m Q body h = all_of_kept naf (λ e. Q (atom m e)) body (all_of_map (atom m) Q (filter naf body) h)

all_neg : (m : Meaning) (Q : Atom → Type 0) (body : List Entry) → AllByRecursion (λ e. naf e ≡ true → Q (atom m e)) body → AllByRecursion Q (neg_of m body)
all_neg m Q body h = all_to_map (atom m) Q (filter naf body) (all_to_kept naf (λ e. Q (atom m e)) body h)

pos_any : (m : Meaning) (Q : Atom → Type 0) (body : List Entry) → Any Q (pos_of m body) → Any (λ e. (plain e ≡ true) × Q (atom m e)) body
pos_any m Q body h = any_of_kept plain (λ e. Q (atom m e)) body (any_of_map (atom m) Q (filter plain body) h)

any_pos : (m : Meaning) (Q : Atom → Type 0) (body : List Entry) → Any (λ e. (plain e ≡ true) × Q (atom m e)) body → Any Q (pos_of m body)
any_pos m Q body h = any_to_map (atom m) Q (filter plain body) (any_to_kept plain (λ e. Q (atom m e)) body h)

neg_any : (m : Meaning) (Q : Atom → Type 0) (body : List Entry) → Any Q (neg_of m body) → Any (λ e. (naf e ≡ true) × Q (atom m e)) body
neg_any m Q body h = any_of_kept naf (λ e. Q (atom m e)) body (any_of_map (atom m) Q (filter naf body) h)

any_neg : (m : Meaning) (Q : Atom → Type 0) (body : List Entry) → Any (λ e. (naf e ≡ true) × Q (atom m e)) body → Any Q (neg_of m body)
any_neg m Q body h = any_to_map (atom m) Q (filter naf body) (any_to_kept naf (λ e. Q (atom m e)) body h)

-- from the two parts of an entry, by its sign
module _ (m : Meaning) (S M : ℕ) where
  join_complement : (k : ℕ) (neg : Bool) → (not neg ≡ true → Always m k S M) → (neg ≡ true → Never m k S M) → CarriedBy m complement k neg S M
  join_complement k false p n = p refl
  join_complement k true p n = n refl

  pos_complement : (w : Way) (k : ℕ) (neg : Bool) → CarriedBy m w k neg S M → not neg ≡ true → Always m k S M
  pos_complement w k false c e = c
  pos_complement w k true c e = absurd (both_ways false refl e)

  neg_complement : (k : ℕ) (neg : Bool) → CarriedBy m complement k neg S M → neg ≡ true → Never m k S M
  neg_complement k false c e = absurd (both_ways false refl e)
  neg_complement k true c e = c

  join_reduct : (k : ℕ) (neg : Bool) → (not neg ≡ true → Always m k S M) → (neg ≡ true → meets m k M ≡ false) → CarriedBy m reduct k neg S M
  join_reduct k false p n = p refl
  join_reduct k true p n = n refl

  neg_reduct : (k : ℕ) (neg : Bool) → CarriedBy m reduct k neg S M → neg ≡ true → meets m k M ≡ false
  neg_reduct k false c e = absurd (both_ways false refl e)
  neg_reduct k true c e = c

-- a false entry, by its sign
module _ (m : Meaning) (M k : ℕ) where
  false_pos : (neg : Bool) → not neg ≡ true → meets m k M ≡ false → cond neg (not (meets m k M)) (meets m k M) ≡ false
  false_pos false e h = h
  false_pos true e h = absurd (both_ways false refl e)

  false_neg : (neg : Bool) → neg ≡ true → meets m k M ≡ true → cond neg (not (meets m k M)) (meets m k M) ≡ false
  false_neg false e h = absurd (both_ways false refl e)
  false_neg true e h = not_from_true (meets m k M) h

  which : (neg : Bool) → cond neg (not (meets m k M)) (meets m k M) ≡ false
      → ((not neg ≡ true) × (meets m k M ≡ false)) ⊎ ((neg ≡ true) × (meets m k M ≡ true))
  which false h = inl (refl, h)
  which true h = inr (refl, not-false (meets m k M) h)

-- some entry that does not hold stands in one part or in the other
halves : {X : Type 0} (P Q R : X → Type 0) → ((x : X) → P x → Q x ⊎ R x) → (xs : List X) → Any P xs → Any Q xs ⊎ Any R xs
halves P Q R f [] h = absurd h
halves P Q R f (x ∷ xs) (inl h) = ⊎_elim (λ k. inl (inl k)) (λ k. inr (inl k)) (f x h)
halves P Q R f (x ∷ xs) (inr h) = ⊎_elim (λ k. inl (inr k)) (λ k. inr (inr k)) (halves P Q R f xs h)

failing : (m : Meaning) (M : ℕ) (body : List Entry) → Any (Fails M) (pos_of m body) ⊎ Any (λ A. M ⊨ A) (neg_of m body) → Any (λ e. holds m e M ≡ false) body
failing m M body (inl h) =
    any_to (λ e. (plain e ≡ true) × Fails M (atom m e)) (λ e. holds m e M ≡ false) (λ e k. false_pos m M e.condition e.negated k.0 k.1) body (pos_any m (Fails M) body h)
failing m M body (inr h) =
    any_to (λ e. (naf e ≡ true) × (M ⊨ atom m e)) (λ e. holds m e M ≡ false) (λ e k. false_neg m M e.condition e.negated k.0 k.1) body (neg_any m (λ A. M ⊨ A) body h)

failing_back : (m : Meaning) (M : ℕ) (body : List Entry) → Any (λ e. holds m e M ≡ false) body → Any (Fails M) (pos_of m body) ⊎ Any (λ A. M ⊨ A) (neg_of m body)
failing_back m M body h = ⊎_elim
    (λ k. inl (any_pos m (Fails M) body k))
    (λ k. inr (any_neg m (λ A. M ⊨ A) body k))
    (halves (λ e. holds m e M ≡ false) (λ e. (plain e ≡ true) × Fails M (atom m e)) (λ e. (naf e ≡ true) × (M ⊨ atom m e))
    (λ e k. which m M e.condition e.negated k) body h)

-- ---- the complement of the program

complement_follows : (m : Meaning) (rules : List Rule) (S M a : ℕ) → S ⊆ M → Follows (complement_of (program m rules)) S M a ↔ Any (Gives m complement S M a) rules
complement_follows m rules S M a s = (
  λ h. any_to (λ r. Q (co_clause (clause m r))) (Gives m complement S M a) forth rules
      (any_of_map (clause m) (λ r. Q (co_clause r)) rules (any_of_map co_clause Q (program m rules) h)),
  λ h. any_to_map co_clause Q (program m rules) (any_to_map (clause m) (λ r. Q (co_clause r)) rules
      (any_to (Gives m complement S M a) (λ r. Q (co_clause (clause m r))) back rules h)),
)
  where
    Q : Clause → Type 0
    Q r = (r.head ≡ decision a) × AllByRecursion (Conditionally S M) r.pos

    forth : (r : Rule) → Q (co_clause (clause m r)) → Gives m complement S M a r
    forth r g =
        let p = pos_all m (Conditionally S M) r.body (all_left (Conditionally S M) (pos_of m r.body) (map co (neg_of m r.body)) g.1) in
        let n = neg_all m (λ A. Conditionally S M (co A)) r.body
        (all_of_map co (Conditionally S M) (neg_of m r.body) (all_right (Conditionally S M) (pos_of m r.body) (map co (neg_of m r.body)) g.1)) in (
          g.0,
          all_zip (λ e. plain e ≡ true → Conditionally S M (atom m e)) (λ e. naf e ≡ true → Conditionally S M (co (atom m e))) (λ e. Carried m complement e S M)
              (λ e x y. join_complement m S M e.condition e.negated (λ q. always_of m e S M (x q)) (λ q. never_of m e S M (y q)))
              r.body p n,
        )

    back : (r : Rule) → Gives m complement S M a r → Q (co_clause (clause m r))
    back r g = (
      g.0,
      all_join (Conditionally S M) (pos_of m r.body) (map co (neg_of m r.body))
          (all_pos m (Conditionally S M) r.body
          (all_to (λ e. Carried m complement e S M) (λ e. plain e ≡ true → Conditionally S M (atom m e))
          (λ e c q. of_always m e S M s (pos_complement m S M complement e.condition e.negated c q)) r.body g.1))
          (all_to_map co (Conditionally S M) (neg_of m r.body)
          (all_neg m (λ A. Conditionally S M (co A)) r.body
          (all_to (λ e. Carried m complement e S M) (λ e. naf e ≡ true → Conditionally S M (co (atom m e)))
          (λ e c q. of_never m e S M s (neg_complement m S M e.condition e.negated c q)) r.body g.1))),
    )

complement_model : (m : Meaning) (rules : List Rule) (M : ℕ) → Model (complement_of (program m rules)) M ↔ AllByRecursion (Keeps m M) rules
complement_model m rules M = (
  λ h. all_to (λ r. Satisfies M (co_clause (clause m r))) (Keeps m M) forth rules
      (all_of_map (clause m) (λ r. Satisfies M (co_clause r)) rules (all_of_map co_clause (Satisfies M) (program m rules) h)),
  λ h. all_to_map co_clause (Satisfies M) (program m rules) (all_to_map (clause m) (λ r. Satisfies M (co_clause r)) rules
      (all_to (Keeps m M) (λ r. Satisfies M (co_clause (clause m r))) back rules h)),
)
  where
    forth : (r : Rule) → Satisfies M (co_clause (clause m r)) → Keeps m M r
    forth r = ⊎_elim (λ h. inl h) (⊎_elim
        (λ h. inr (failing m M r.body (⊎_elim
        (λ k. inl k)
        (λ k. inr (any_to (λ A. Fails M (co A)) (λ A. M ⊨ A) (co_fails M) (neg_of m r.body) (any_of_map co (Fails M) (neg_of m r.body) k)))
        (any_split (Fails M) (pos_of m r.body) (map co (neg_of m r.body)) h))))
        (λ h. absurd h))

    back : (r : Rule) → Keeps m M r → Satisfies M (co_clause (clause m r))
    back r = ⊎_elim (λ h. inl h) (λ h. inr (inl (⊎_elim
        (λ k. any_left (Fails M) (pos_of m r.body) (map co (neg_of m r.body)) k)
        (λ k. any_right (Fails M) (pos_of m r.body) (map co (neg_of m r.body))
        (any_to_map co (Fails M) (neg_of m r.body) (any_to (λ A. M ⊨ A) (λ A. Fails M (co A)) (fails_co M) (neg_of m r.body) k)))
        (failing_back m M r.body h))))

-- ---- the reduct of the program

none_all : (M : ℕ) (As : List Atom) → none_met M As ≡ true → AllByRecursion (Fails M) As
none_all M [] h = tt
none_all M (A ∷ As) h =
    let k = and_parts (not (A.sol (M ∩ A.dom))) (none_met M As) h in (not-true (A.sol (M ∩ A.dom)) k.0, none_all M As k.1)

all_none : (M : ℕ) (As : List Atom) → AllByRecursion (Fails M) As → none_met M As ≡ true
all_none M [] h = refl
all_none M (A ∷ As) h = and_from (not (A.sol (M ∩ A.dom))) (none_met M As) (not_from_false (A.sol (M ∩ A.dom)) h.0) (all_none M As h.1)

some_met : (M : ℕ) (As : List Atom) → none_met M As ≡ false → Any (λ A. M ⊨ A) As
some_met M [] h = absurd (both_ways true h refl)
some_met M (A ∷ As) h = ⊎_elim
    (λ k. inl (not-false (A.sol (M ∩ A.dom)) k))
    (λ k. inr (some_met M As k))
    (and_cases (not (A.sol (M ∩ A.dom))) (none_met M As) h)

abbrev stays : ℕ → Clause → Bool
stays M r = none_met M r.neg

reduct_follows : (m : Meaning) (rules : List Rule) (S M a : ℕ) → S ⊆ M → Follows (reduct_of (program m rules) M) S M a ↔ Any (Gives m reduct S M a) rules
reduct_follows m rules S M a s = (
  λ h. any_to (λ r. (stays M (clause m r) ≡ true) × Q (bare (clause m r))) (Gives m reduct S M a) forth rules
      (any_of_map (clause m) (λ r. (stays M r ≡ true) × Q (bare r)) rules
      (any_of_kept (stays M) (λ r. Q (bare r)) (program m rules) (any_of_map bare Q (filter (stays M) (program m rules)) h))),
  λ h. any_to_map bare Q (filter (stays M) (program m rules))
      (any_to_kept (stays M) (λ r. Q (bare r)) (program m rules)
      (any_to_map (clause m) (λ r. (stays M r ≡ true) × Q (bare r)) rules
      (any_to (Gives m reduct S M a) (λ r. (stays M (clause m r) ≡ true) × Q (bare (clause m r))) back rules h))),
)
  where
    Q : Clause → Type 0
    Q r = (r.head ≡ decision a) × AllByRecursion (Conditionally S M) r.pos

    forth : (r : Rule) → (stays M (clause m r) ≡ true) × Q (bare (clause m r)) → Gives m reduct S M a r
    forth r g = (
      g.1.0,
      all_zip (λ e. plain e ≡ true → Conditionally S M (atom m e)) (λ e. naf e ≡ true → Fails M (atom m e)) (λ e. Carried m reduct e S M)
          (λ e x y. join_reduct m S M e.condition e.negated (λ q. always_of m e S M (x q)) y)
          r.body (pos_all m (Conditionally S M) r.body g.1.1) (neg_all m (Fails M) r.body (none_all M (neg_of m r.body) g.0)),
    )

    back : (r : Rule) → Gives m reduct S M a r → (stays M (clause m r) ≡ true) × Q (bare (clause m r))
    back r g = (
      all_none M (neg_of m r.body) (all_neg m (Fails M) r.body
          (all_to (λ e. Carried m reduct e S M) (λ e. naf e ≡ true → Fails M (atom m e)) (λ e c q. neg_reduct m S M e.condition e.negated c q) r.body g.1)),
      (
        g.0,
        all_pos m (Conditionally S M) r.body
            (all_to (λ e. Carried m reduct e S M) (λ e. plain e ≡ true → Conditionally S M (atom m e))
            (λ e c q. of_always m e S M s (pos_complement m S M reduct e.condition e.negated c q)) r.body g.1),
      ),
    )

reduct_model : (m : Meaning) (rules : List Rule) (M : ℕ) → Model (reduct_of (program m rules) M) M ↔ AllByRecursion (Keeps m M) rules
reduct_model m rules M = (
  λ h. all_to (λ r. stays M (clause m r) ≡ true → Satisfies M (bare (clause m r))) (Keeps m M) forth rules
      (all_of_map (clause m) (λ r. stays M r ≡ true → Satisfies M (bare r)) rules
      (all_of_kept (stays M) (λ r. Satisfies M (bare r)) (program m rules) (all_of_map bare (Satisfies M) (filter (stays M) (program m rules)) h))),
  λ h. all_to_map bare (Satisfies M) (filter (stays M) (program m rules))
      (all_to_kept (stays M) (λ r. Satisfies M (bare r)) (program m rules)
      (all_to_map (clause m) (λ r. stays M r ≡ true → Satisfies M (bare r)) rules
      (all_to (Keeps m M) (λ r. stays M (clause m r) ≡ true → Satisfies M (bare (clause m r))) back rules h))),
)
  where
    forth : (r : Rule) → (stays M (clause m r) ≡ true → Satisfies M (bare (clause m r))) → Keeps m M r
    forth r f = ⊎_elim
        (λ (q : stays M (clause m r) ≡ true).
        ⊎_elim (λ h. inl h) (⊎_elim (λ h. inr (failing m M r.body (inl h))) (λ h. absurd h)) (f q))
        (λ (q : stays M (clause m r) ≡ false). inr (failing m M r.body (inr (some_met M (neg_of m r.body) q))))
        (cases_Bool (stays M (clause m r)))

    back : (r : Rule) → Keeps m M r → stays M (clause m r) ≡ true → Satisfies M (bare (clause m r))
    back r k q = ⊎_elim (λ h. inl h) (λ h. inr (inl (⊎_elim
        (λ x. x)
        (λ x. no_any {A = Any (Fails M) (pos_of m r.body)} (λ A. M ⊨ A) (Fails M) (λ A u v. both_ways (A.sol (M ∩ A.dom)) v u) (neg_of m r.body) x (none_all M (neg_of m r.body) q))
        (failing_back m M r.body h)))) k

-- ---- both ways at once

way_follows : (m : Meaning) (w : Way) (rules : List Rule) (S M a : ℕ) → S ⊆ M → Follows (positive w (program m rules) M) S M a ↔ Any (Gives m w S M a) rules
way_follows m reduct rules S M a s = reduct_follows m rules S M a s
way_follows m complement rules S M a s = complement_follows m rules S M a s

way_model : (m : Meaning) (w : Way) (rules : List Rule) (M : ℕ) → Model (positive w (program m rules) M) M ↔ AllByRecursion (Keeps m M) rules
way_model m reduct rules M = reduct_model m rules M
way_model m complement rules M = complement_model m rules M

module _ (m : Meaning) (w : Way) (rules : List Rule) (M : ℕ) (M< : M < 2 ^ 64) (kept : AllByRecursion (Keeps m M) rules) where
  abbrev P' : Program
  P' = positive w (program m rules) M

  abbrev der : ℕ → ℕ → Bool
  der = derives m w rules M

  inside' : (S b : ℕ) → S ⊆ M → der S b ≡ true → b ∈ M
  inside' = derives_inside m w rules M M< kept

  in_rounds : (i : ℕ) → round der i ⊆ M
  in_rounds = core.round_in M M< der (derives_mono m w rules M M<) inside'

  -- the i-th set of the published operator is the i-th round
  step_round : (i : ℕ) → Step P' M (round der i) (round der (suc i))
  step_round i a = (
    λ h. (way_follows m w rules (round der i) M a (in_rounds i)).1
        (derives_sound m w rules M M< (round der i) a (core.from_round M M< der (derives_mono m w rules M M<) inside' i a h)),
    λ h. core.to_round M M< der (derives_mono m w rules M M<) inside' i a
        (derives_complete m w rules M M< (round der i) a (in_rounds i) ((way_follows m w rules (round der i) M a (in_rounds i)).0 h)),
  )

  pub stage_round : (i : ℕ) → Stage P' M i (round der i)
  stage_round zero = round_zero der
  stage_round (suc i) = (round der i, stage_round i, step_round i)

  pub stage_only : (i R : ℕ) → Stage P' M i R → R ≡ round der i
  stage_only zero R h = h ∙ sym (round_zero der)
  stage_only (suc i) R h =
      let e = stage_only i h.0 h.1 in
      let st : Step P' M (round der i) R = subst (λ (x : ℕ). Step P' M x R) e h.2 in
      sub_antisym R (round der (suc i)) (λ d k. (step_round i d).1 ((st d).0 k)) (λ d k. (st d).1 ((step_round i d).0 k))

pub borne_is_answer_set : BorneIsAnswerSet
borne_is_answer_set m w rules M M< = (
  λ b. (
    (way_model m w rules M).1 b.1.kept,
    (
      64,
      λ j l. subst (λ (x : ℕ). Stage (positive w (program m rules) M) M j x)
          (core.round_eq M M< (derives m w rules M) (derives_mono m w rules M M<) (derives_inside m w rules M M< b.1.kept) (borne_full m w rules M M< b) j l)
          (stage_round m w rules M M< b.1.kept j),
    ),
  ),
  λ a.
      let kept = (way_model m w rules M).0 a.0 in
      let i = a.1.0 in
      let e = stage_only m w rules M M< kept i M (a.1.1 i (le_refl i)) in (
        round_ranks (derives m w rules M),
        bears_of m w rules M M< kept
            (λ d k. core.all_rounds M M< (derives m w rules M) (derives_mono m w rules M M<) (derives_inside m w rules M M< kept) i d
            (subst (λ (x : ℕ). d ∈ x) e k)),
      ),
)

pub rounds_are : (m : Meaning) (w : Way) (rules : List Rule) (M : ℕ) → M < 2 ^ 64 → Borne m w rules M → Rounds m w rules M (round_ranks (derives m w rules M))
rounds_are m w rules M M< b = record {
  bear = borne_bears m w rules M M< b;
  first = λ d h. record {
    there = (
      round der' (rank (round_ranks der') d),
      stage_round m w rules M M< kept (rank (round_ranks der') d),
      subst (λ (x : ℕ). d ∈ round der' x) (sym (at d h))
          (core.round_of_in M M< der' (derives_mono m w rules M M<) (derives_inside m w rules M M< kept) d (borne_full m w rules M M< b d h)),
    );
    not_before = λ j R l st. ⊎_elim
        (λ (i : d ∈ R). absurd (not-le_of_lt l (le_trans (le_of_eq (at d h))
        (core.round_of_le M M< der' (derives_mono m w rules M M<) (derives_inside m w rules M M< kept) j d
        (subst (λ (x : ℕ). d ∈ x) (stage_only m w rules M M< kept j R st) i)))))
        (λ (i : d ∉ R). i)
        (cases_Bool (has R d));
  };
  depth = depth_64 m w rules M M< b;
  least = rounds_least m w rules M M< b;
}
  where
    der' : ℕ → ℕ → Bool
    der' = derives m w rules M

    kept : AllByRecursion (Keeps m M) rules
    kept = b.1.kept

    at : (d : ℕ) → d ∈ M → rank (round_ranks (derives m w rules M)) d ≡ round_of (derives m w rules M) d
    at d h = rank_round (derives m w rules M) d (member_below 64 M d M< h)

pub rounds_bear : RoundsBear
rounds_bear m w rules M M< b = (round_ranks (derives m w rules M), rounds_are m w rules M M< b)

pub stages_exist : StagesExist
stages_exist m w rules M M< kept i =
    (round (derives m w rules M) i, stage_round m w rules M M< kept i, in_rounds m w rules M M< kept i, λ Q h. stage_only m w rules M M< kept i Q h)
