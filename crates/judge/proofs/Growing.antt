-- One round: a set that grows by what the rules give.
use Rattle.std.proofs.Common.{◌≡◌, ℕ, ◌+◌, ◌<◌, ◌⊎◌, List, [], ◌∷◌, ◌++◌, map, length, get_or, take, sym, ap, ◌∙◌, subst, inl, inr, ⊎_elim}
use Rattle.std.specs.List.{AllByRecursion}
use Rattle.std.proofs.lemmas.List.{take_more, map-append}
use Rattle.std.proofs.lemmas.Bool.{eqb-true, eq-eqb}
use Rattle.banks.specs.Meaning.{Meaning}
use Rattle.sets.specs.Sets.{◌∈◌, ◌∪◌, single}
use Rattle.sets.proofs.Members.{in_or, or_first, or_second, has_single}
use Rattle.answer_sets.specs.Rules.{Any, Way, Rule, decision, Carried, Gives}
use Rattle.answer_sets.proofs.Each.{any_split, any_left, any_right}
use Rattle.judge.specs.Reached.{Grown}

same_head : (d e : ℕ) (r : Rule) → r.head ≡ decision d → r.head ≡ decision e → d ≡ e
same_head d e r p q = cc

module _ (m : Meaning) (w : Way) (lo up : ℕ) (r : Rule) (out d : ℕ) (is-head : r.head ≡ decision d) where
  pub grown_has : d ∈ out → Grown m w lo up r out out
  grown_has h e = ((λ i. inl i), ⊎_elim (λ i. i) (λ g. subst (λ (x : ℕ). x ∈ out) (same_head d e r is-head g.0) h))

  pub grown_not : (AllByRecursion (λ x. Carried m w x lo up) r.body → ⊥) → Grown m w lo up r out out
  grown_not n e = ((λ i. inl i), ⊎_elim (λ i. i) (λ g. absurd (n g.1)))

  pub grown_with : (s : ℕ) → s ≡ out ∪ single d → AllByRecursion (λ x. Carried m w x lo up) r.body → Grown m w lo up r out s
  grown_with s is a e = (
    (λ i. ⊎_elim (λ (h : e ∈ out). inl h)
        (λ (h : e ∈ single d). inr (is-head ∙ ap decision (sym (eqb-true e d (sym (has_single d e) ∙ h))), a))
        (in_or out (single d) e (subst (λ (x : ℕ). e ∈ x) is i))),
    (λ g. subst (λ (x : ℕ). e ∈ x) (sym is) (⊎_elim (λ i. or_first out (single d) e i)
        (λ k. or_second out (single d) e (has_single d e ∙ eq-eqb e d (sym (same_head d e r is-head k.0)))) g)),
  )

pub grown_none : (m : Meaning) (w : Way) (lo up : ℕ) (r : Rule) (out : ℕ) → ((d : ℕ) → r.head ≡ decision d → ⊥) → Grown m w lo up r out out
grown_none m w lo up r out n e = ((λ i. inl i), ⊎_elim (λ i. i) (λ g. absurd (n e g.0)))

-- ---- over a list of rules

module _ {X Y : Type 0} (f : X → Y) (xs : List X) (i : ℕ) (x : X) (h : i < length xs) (e : x ≡ get_or xs i x) where
  front : map f (take (i + 1) xs) ≡ map f (take i xs) ++ (f x ∷ [])
  front = ap (map f) (take_more xs i x h) ∙ map-append f (take i xs) (get_or xs i x ∷ []) ∙ ap (λ (y : X). map f (take i xs) ++ (f y ∷ [])) (sym e)

  pub any_more : (P : Y → Type 0) → Any P (map f (take (i + 1) xs)) → Any P (map f (take i xs)) ⊎ P (f x)
  any_more P a = ⊎_elim (λ p. inl p) (λ q. ⊎_elim (λ p. inr p) (λ z. absurd z) q) (any_split P (map f (take i xs)) (f x ∷ []) (subst (Any P) front a))

  pub more_any : (P : Y → Type 0) → Any P (map f (take i xs)) ⊎ P (f x) → Any P (map f (take (i + 1) xs))
  more_any P c = subst (Any P) (sym front) (⊎_elim (λ a. any_left P (map f (take i xs)) (f x ∷ []) a) (λ p. any_right P (map f (take i xs)) (f x ∷ []) (inl p)) c)

  pub given_more : (m : Meaning) (w : Way) (lo up out s : ℕ) (rule_of : Y → Rule) → Grown m w lo up (rule_of (f x)) out s
      → ((d : ℕ) → (d ∈ out → (d ∈ lo) ⊎ Any (λ y. Gives m w lo up d (rule_of y)) (map f (take i xs))) × ((d ∈ lo) ⊎ Any (λ y. Gives m w lo up d (rule_of y)) (map f (take i xs)) → d ∈ out))
      → (d : ℕ) → (d ∈ s → (d ∈ lo) ⊎ Any (λ y. Gives m w lo up d (rule_of y)) (map f (take (i + 1) xs))) × ((d ∈ lo) ⊎ Any (λ y. Gives m w lo up d (rule_of y)) (map f (take (i + 1) xs)) → d ∈ s)
  given_more m w lo up out s rule_of g b d =
      let P : Y → Type 0 = λ y. Gives m w lo up d (rule_of y) in (
        (λ i'. ⊎_elim (λ o. ⊎_elim (λ l. inl l) (λ a. inr (more_any P (inl a))) ((b d).0 o)) (λ p. inr (more_any P (inr p))) ((g d).0 i')),
        ⊎_elim (λ l. (g d).1 (inl ((b d).1 (inl l)))) (λ a. ⊎_elim (λ q. (g d).1 (inl ((b d).1 (inr q)))) (λ p. (g d).1 (inr p)) (any_more P a)),
      )
