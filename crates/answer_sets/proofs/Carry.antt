-- What carries an entry, as a test; its monotony; and that what is carried holds.
use Rattle.std.proofs.Common.{◌≡◌, ℕ, ◌^◌, ◌<◌, Bool, true, false, cond, not, List, refl, ap, ◌∙◌, subst, ⊎_elim, lt_of_le_of_lt}
use lib.Bits.{and_le_l}
use Rattle.std.specs.List.{AllByRecursion}
use Rattle.std.proofs.lemmas.Bool.{both_ways, and_parts, and_from, eqb-true, eq-eqb, not-true, not_from_false}
use Rattle.sets.specs.Sets.{◌∈◌, ◌⊆◌, ◌∩◌}
use Rattle.banks.specs.Meaning.{Meaning}
use Rattle.answer_sets.specs.Rules.{Any, Way, reduct, complement, Head, decision, no_head, Entry, Rule, meets, holds, HeadIn, Keeps, CarriedBy, Carried, Gives}
use Rattle.answer_sets.specs.Tests.{allb, carriedb_by, carriedb, heads, givesb, derives}
use Rattle.sets.proofs.Members.{and_sub, sub_lt}
use Rattle.answer_sets.proofs.Each.{allb_all, all_allb, anyb_any, any_anyb, all_to, any_to, no_any, any_all, any_out}
use Rattle.answer_sets.proofs.Between.{between_sound, between_complete}

cut_lt : (M D : ℕ) → M < 2 ^ 64 → M ∩ D < 2 ^ 64
cut_lt M D h = lt_of_le_of_lt (and_le_l M D) h

by_sound : (m : Meaning) (w : Way) (k : ℕ) (neg : Bool) (L M : ℕ) → M < 2 ^ 64 → carriedb_by m w k neg L M ≡ true → CarriedBy m w k neg L M
by_sound m w k false L M l e = λ F q.
    between_sound 64 (L ∩ m.domain k) (M ∩ m.domain k) (m.family k) e F (sub_lt 64 F (M ∩ m.domain k) q.1 (cut_lt M (m.domain k) l)) q.0 q.1
by_sound m complement k true L M l e = λ F q.
    not-true (m.family k F)
    (between_sound 64 (L ∩ m.domain k) (M ∩ m.domain k) (λ F. not (m.family k F)) e F (sub_lt 64 F (M ∩ m.domain k) q.1 (cut_lt M (m.domain k) l)) q.0 q.1)
by_sound m reduct k true L M l e = not-true (meets m k M) e

by_complete : (m : Meaning) (w : Way) (k : ℕ) (neg : Bool) (L M : ℕ) → M < 2 ^ 64 → L ⊆ M → CarriedBy m w k neg L M → carriedb_by m w k neg L M ≡ true
by_complete m w k false L M l s c =
    between_complete 64 (L ∩ m.domain k) (M ∩ m.domain k) (m.family k) (and_sub L M (m.domain k) s) (cut_lt M (m.domain k) l) (λ F a b. c F (a, b))
by_complete m complement k true L M l s c =
    between_complete 64 (L ∩ m.domain k) (M ∩ m.domain k) (λ F. not (m.family k F)) (and_sub L M (m.domain k) s) (cut_lt M (m.domain k) l)
    (λ F a b. not_from_false (m.family k F) (c F (a, b)))
by_complete m reduct k true L M l s c = not_from_false (meets m k M) c

by_mono : (m : Meaning) (w : Way) (k : ℕ) (neg : Bool) (S U M : ℕ) → S ⊆ U → CarriedBy m w k neg S M → CarriedBy m w k neg U M
by_mono m w k false S U M s c = λ F q. c F ((λ d h. q.0 d (and_sub S U (m.domain k) s d h)), q.1)
by_mono m complement k true S U M s c = λ F q. c F ((λ d h. q.0 d (and_sub S U (m.domain k) s d h)), q.1)
by_mono m reduct k true S U M s c = c

-- by complement, what is carried holds at each set of the span
by_span : (m : Meaning) (k : ℕ) (neg : Bool) (L N M : ℕ) → L ⊆ N → N ⊆ M → CarriedBy m complement k neg L M → cond neg (not (meets m k N)) (meets m k N) ≡ true
by_span m k false L N M s t c = c (N ∩ m.domain k) (and_sub L N (m.domain k) s, and_sub N M (m.domain k) t)
by_span m k true L N M s t c = not_from_false (meets m k N) (c (N ∩ m.domain k) (and_sub L N (m.domain k) s, and_sub N M (m.domain k) t))

-- by either way it holds at M
by_holds : (m : Meaning) (w : Way) (k : ℕ) (neg : Bool) (L M : ℕ) → L ⊆ M → CarriedBy m w k neg L M → cond neg (not (meets m k M)) (meets m k M) ≡ true
by_holds m w k false L M s c = c (M ∩ m.domain k) (and_sub L M (m.domain k) s, λ d h. h)
by_holds m complement k true L M s c = by_span m k true L M M s (λ d h. h) c
by_holds m reduct k true L M s c = not_from_false (meets m k M) c

-- what is carried by complement is carried by reduct
by_weaker : (m : Meaning) (k : ℕ) (neg : Bool) (L M : ℕ) → L ⊆ M → CarriedBy m complement k neg L M → CarriedBy m reduct k neg L M
by_weaker m k false L M s c = c
by_weaker m k true L M s c = c (M ∩ m.domain k) (and_sub L M (m.domain k) s, λ d h. h)

pub carried_span : (m : Meaning) (L N M : ℕ) → L ⊆ N → N ⊆ M → (e : Entry) → Carried m complement e L M → holds m e N ≡ true
carried_span m L N M s t e c = by_span m e.condition e.negated L N M s t c

pub carried_weaker : (m : Meaning) (L M : ℕ) → L ⊆ M → (e : Entry) → Carried m complement e L M → Carried m reduct e L M
carried_weaker m L M s e c = by_weaker m e.condition e.negated L M s c

-- ---- rules

heads_sound : (b : ℕ) (h : Head) → heads b h ≡ true → h ≡ decision b
heads_sound b (decision d) e = ap decision (eqb-true d b e)
heads_sound b no_head e = absurd (both_ways false refl e)

heads_self : (b : ℕ) → heads b (decision b) ≡ true
heads_self b = eq-eqb b b refl

heads_complete : (b : ℕ) (h : Head) → h ≡ decision b → heads b h ≡ true
heads_complete b h e = ap (heads b) e ∙ heads_self b

-- a rule whose body holds at N and that N keeps has its head in N
pub head_kept : (m : Meaning) (N b : ℕ) (r : Rule) → r.head ≡ decision b → AllByRecursion (λ e. holds m e N ≡ true) r.body → Keeps m N r → b ∈ N
head_kept m N b r e h k = ⊎_elim
    (λ (i : HeadIn r.head N). subst (λ (x : Head). HeadIn x N) e i)
    (λ (i : Any (λ e. holds m e N ≡ false) r.body).
    no_any {A = b ∈ N} (λ e. holds m e N ≡ false) (λ e. holds m e N ≡ true) (λ x p q. both_ways (holds m x N) p q) r.body i h)
    k

module _ (m : Meaning) (w : Way) (rules : List Rule) (M : ℕ) (M< : M < 2 ^ 64) where
  pub derives_sound : (L b : ℕ) → derives m w rules M L b ≡ true → Any (Gives m w L M b) rules
  unfolding derives
  derives_sound L b =
      anyb_any (givesb m w L M b) (Gives m w L M b)
      (λ r e. let k = and_parts (heads b r.head) (allb (carriedb m w L M) r.body) e in (
        heads_sound b r.head k.0,
        allb_all (carriedb m w L M) (λ e. Carried m w e L M) (λ e h. by_sound m w e.condition e.negated L M M< h) r.body k.1,
      ))
      rules

  pub derives_complete : (L b : ℕ) → L ⊆ M → Any (Gives m w L M b) rules → derives m w rules M L b ≡ true
  unfolding derives
  derives_complete L b s =
      any_anyb (givesb m w L M b) (Gives m w L M b)
      (λ r g. and_from (heads b r.head) (allb (carriedb m w L M) r.body) (heads_complete b r.head g.0)
      (all_allb (carriedb m w L M) (λ e. Carried m w e L M) (λ e h. by_complete m w e.condition e.negated L M M< s h) r.body g.1))
      rules

  pub derives_mono : (S U b : ℕ) → S ⊆ U → U ⊆ M → derives m w rules M S b ≡ true → derives m w rules M U b ≡ true
  derives_mono S U b s t e =
      derives_complete U b t
      (any_to (Gives m w S M b) (Gives m w U M b)
      (λ r g. (g.0, all_to (λ e. Carried m w e S M) (λ e. Carried m w e U M) (λ e c. by_mono m w e.condition e.negated S U M s c) r.body g.1))
      rules (derives_sound S b e))

  pub derives_inside : AllByRecursion (Keeps m M) rules → (S b : ℕ) → S ⊆ M → derives m w rules M S b ≡ true → b ∈ M
  derives_inside kept S b s e =
      any_out (λ _. b ∈ M) (λ _ h. h) rules
      (any_all (Gives m w S M b) (Keeps m M) (λ _. b ∈ M)
      (λ r g k. head_kept m M b r g.0
      (all_to (λ e. Carried m w e S M) (λ e. holds m e M ≡ true) (λ e c. by_holds m w e.condition e.negated S M s c) r.body g.1) k)
      rules (derives_sound S b e) kept)
