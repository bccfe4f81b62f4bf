-- Conditions and rules at one set.
use Rattle.std.proofs.Common.{◌≡◌, ℕ, Bool, true, false, ◌⊎◌, List, [], ◌∷◌, Decides, sym, ap, ◌∙◌, subst, inl, inr, ⊎_elim}
use Rattle.std.specs.List.{AllByRecursion}
use Rattle.std.proofs.lemmas.Bool.{both_ways, cases_Bool}
use Rattle.banks.specs.Meaning.{Meaning, Always}
use Rattle.sets.specs.Sets.{◌⊆◌, ◌∩◌, Between}
use Rattle.sets.proofs.Members.{sub_antisym, sub_refl, same_test, in_and, to_and, and_sub}
use Rattle.answer_sets.specs.Rules.{Any, Rule, meets, holds, HeadIn, Keeps}
use Rattle.answer_sets.proofs.Each.{no_any}

-- the span of one set, as it is made
module _ (m : Meaning) (k M l u : ℕ) (is-l : l ≡ M ∩ M) (is-u : u ≡ M) where
  self : Between (l ∩ m.domain k) (u ∩ m.domain k) (M ∩ m.domain k)
  self = (
    subst (λ (x : ℕ). x ∩ m.domain k ⊆ M ∩ m.domain k) (sym is-l) (and_sub (M ∩ M) M (m.domain k) (λ d h. (in_and M M d h).0)),
    subst (λ (x : ℕ). M ∩ m.domain k ⊆ x ∩ m.domain k) (sym is-u) (sub_refl (M ∩ m.domain k)),
  )

  only : (f : ℕ) → Between (l ∩ m.domain k) (u ∩ m.domain k) f → f ≡ M ∩ m.domain k
  only f b =
      sub_antisym f (M ∩ m.domain k) (subst (λ (x : ℕ). f ⊆ x ∩ m.domain k) is-u b.1)
      (λ d h. b.0 d (subst (λ (x : ℕ). M ∩ m.domain k ⊆ x ∩ m.domain k) (sym is-l) (and_sub M (M ∩ M) (m.domain k) (λ y i. to_and M M y i i)) d h))

  pub always_at : (r : Bool) → Decides r (Always m k l u) → r ≡ meets m k M
  always_at r d = same_test r (meets m k M) (λ e. d.0 e (M ∩ m.domain k) self) (λ e. d.1 (λ f b. ap (m.family k) (only f b) ∙ e))

-- ---- a rule whose head is not in the set

all_or_any : {X : Type 0} (p : X → Bool) (xs : List X) → AllByRecursion (λ x. p x ≡ true) xs ⊎ Any (λ x. p x ≡ false) xs
all_or_any p [] = inl tt
all_or_any p (x ∷ xs) = ⊎_elim
    (λ (h : p x ≡ true). ⊎_elim (λ k. inl (h, k)) (λ k. inr (inr k)) (all_or_any p xs))
    (λ (h : p x ≡ false). inr (inl h))
    (cases_Bool (p x))

pub keeps_not : (m : Meaning) (M : ℕ) (r : Rule) (t : Bool) → (HeadIn r.head M → ⊥) → Decides t (AllByRecursion (λ e. holds m e M ≡ true) r.body → ⊥) → Decides t (Keeps m M r)
keeps_not m M r t out d = (
  (λ e. ⊎_elim
      (λ (h : AllByRecursion (λ e. holds m e M ≡ true) r.body). absurd (d.0 e h))
      (λ (h : Any (λ e. holds m e M ≡ false) r.body). inr h)
      (all_or_any (λ e. holds m e M) r.body)),
  ⊎_elim (λ h. absurd (out h))
      (λ h. d.1 (λ a. no_any {A = ⊥} (λ e. holds m e M ≡ false) (λ e. holds m e M ≡ true) (λ x p q. both_ways (holds m x M) p q) r.body h a)),
)
