-- Tables of weighed conditions, element by element.
use Rattle.std.proofs.Common.{◌≡◌, ℕ, zero, suc, ◌<◌, Bool, List, [], ◌∷◌, length, Decides, Option, None, Some, MatchOption, MatchBool, ◌&&◌, subst, sym, ap, ◌∙◌}
use Rattle.std.specs.List.{slice_get, AllByRecursion, AllWithin, HoldsAt}
use Rattle.std.proofs.lemmas.Iterator.Search.{true_from_All}
use Rattle.std.proofs.lemmas.List.Elements.{All-from_recursion, recursion_from_All, All-from_all_within}
use Rattle.std.proofs.lemmas.Bool.{eq-eqb}
use Rattle.std.proofs.lemmas.Bool.Decides.{Decides-like}
use Rattle.std.proofs.lemmas.Option.{none-some, same_Some}
use Rattle.measures.specs.Scales.{Scale}
use Rattle.sets.specs.Sets.{◌⊆◌, ◌∩◌, Between}
use Rattle.sets.proofs.Members.{sub_and}
use Rattle.weighed.specs.Totals.{within}
use Rattle.weighed.specs.Tables.{pick, total, balanced}
use Rattle.weighed.specs.declared.condition.WeighedCondition.{WeighedCondition}

-- what is said of an element that may be there is what f says of it, or else z
pub picked : {X Y : Type 0} (xs : List X) (k : ℕ) (f : X → Y) (z y : Y) (r : Option X) (Q : X → Type 0)
    → r ≡ slice_get xs k → MatchOption r (y ≡ z) Q → ((x : X) → Q x → y ≡ f x) → y ≡ pick xs k f z
picked {X} xs k f z y r Q e m h = at_place xs k (subst (λ o. MatchOption o (y ≡ z) Q) e m)
  where
    at_place : (xs : List X) (k : ℕ) → MatchOption (slice_get xs k) (y ≡ z) Q → y ≡ pick xs k f z
    at_place [] k m = m
    at_place (x ∷ xs) zero m = h x m
    at_place (x ∷ xs) (suc k) m = at_place xs k m

-- a test that stops at the first element that fails it decides whether all pass
pub decides_all : {X : Type 0} (P : X → Type 0) (xs : List X) (r : Bool)
    → MatchBool r (AllWithin P xs 0 (length xs)) ((k : ℕ) × (k < length xs) × HoldsAt (λ x. ¬ (P x)) xs k) → Decides r (AllByRecursion P xs)
decides_all P xs r m = (
  (λ e. recursion_from_All P xs (All-from_all_within P xs
      (subst (λ b. MatchBool b (AllWithin P xs 0 (length xs)) ((k : ℕ) × (k < length xs) × HoldsAt (λ x. ¬ (P x)) xs k)) e m))),
  (λ a. true_from_All P (λ x. ¬ (P x)) r xs (λ x p n. n p) m (All-from_recursion P xs a)),
)

-- what is read of the element at a place
pub pick_get : {X Y : Type 0} (xs : List X) (k : ℕ) (f : X → Y) (z : Y) (x : X) → slice_get xs k ≡ Some x → pick xs k f z ≡ f x
pick_get [] k f z x e = absurd (none-some x e)
pick_get (y ∷ xs) zero f z x e = ap f (same_Some y x e)
pick_get (y ∷ xs) (suc k) f z x e = pick_get xs k f z x e

-- a set inside the domain is in the family where its total is between the bounds
pub balanced_is : {W T : Type 0} (s : Scale W T) (c : WeighedCondition W) (ws : List W) (f : ℕ) → f ⊆ c.domain
    → balanced s c ws f ≡ within s (s.bound c.low) (s.bound c.high) (total s c ws f)
balanced_is s c ws f d = ap (λ (x : Bool). x && within s (s.bound c.low) (s.bound c.high) (total s c ws f)) (eq-eqb (f ∩ c.domain) f (sub_and f c.domain d))

-- two questions about the same sets have one answer
pub same_question : (lo up lo' up' : ℕ) (F G : ℕ → Bool) (want r : Bool) → lo' ≡ lo → up' ≡ up → ((f : ℕ) → Between lo' up' f → F f ≡ G f)
    → Decides r ((f : ℕ) → Between lo' up' f → G f ≡ want) → Decides r ((f : ℕ) → Between lo up f → F f ≡ want)
same_question lo up lo' up' F G want r e h same d =
    subst (λ (x : ℕ × ℕ). Decides r ((f : ℕ) → Between x.0 x.1 f → F f ≡ want)) (λ i. (e i, h i))
    (Decides-like r (λ k f b. same f b ∙ k f b) (λ k f b. sym (same f b) ∙ k f b) d)

-- what follows from two clauses on one option
pub on_both : {X R : Type 0} (o : Option X) (A B : Type 0) (P Q : X → Type 0) → MatchOption o A P → MatchOption o B Q → (A → B → R) → ((x : X) → P x → Q x → R) → R
on_both None A B P Q m n h k = h m n
on_both (Some x) A B P Q m n h k = k x m n
