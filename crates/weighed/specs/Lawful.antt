-- The meaning of tables of weighed conditions is lawful.
use Rattle.std.specs.Prelude.{◌≡◌, ℕ, zero, suc, ◌≤◌, Bool, true, false, List, [], ◌∷◌, length, bit_and, refl}
use Rattle.std.specs.List.{AllByRecursion}
use Rattle.std.proofs.Common.{not-suc-le-zero, le_of_suc-le-suc, arith, lit<}
use Rattle.std.proofs.lemmas.Bool.{and_parts, eqb-true, both_ways}
use lib.Count.{ones-le}
use Rattle.banks.specs.Meaning.{Lawful}
use Rattle.measures.specs.Scales.{Scale}
use Rattle.sets.specs.Sets.{◌⊆◌, inside, size}
use Rattle.sets.proofs.Members.{and_sub_of}
use Rattle.weighed.specs.Totals.{within}
use Rattle.weighed.specs.Tables.{pick, total, balanced, weighed, Sound, Valid}
use Rattle.weighed.specs.declared.condition.WeighedCondition.{WeighedCondition}

pub pick_past : {X Y : Type 0} (xs : List X) (k : ℕ) (f : X → Y) (z : Y) → length xs ≤ k → pick xs k f z ≡ z
pick_past [] k f z h = refl
pick_past (x ∷ xs) zero f z h = absurd (not-suc-le-zero h)
pick_past (x ∷ xs) (suc k) f z h = pick_past xs k f z (le_of_suc-le-suc h)

-- a fact of two readings of each element, and of what stands past the end
pub pick_both : {X Y Z : Type 0} (P : Y → Z → Type 0) (xs : List X) (k : ℕ) (f : X → Y) (y : Y) (g : X → Z) (z : Z)
    → ((x : X) → P (f x) (g x)) → P y z → P (pick xs k f y) (pick xs k g z)
pick_both P [] k f y g z h e = e
pick_both P (x ∷ xs) zero f y g z h e = h x
pick_both P (x ∷ xs) (suc k) f y g z h e = pick_both P xs k f y g z h e

-- what holds of each element and past the end holds at each place
pub pick_all : {X Y : Type 0} (P : X → Type 0) (Q : Y → Type 0) (f : X → Y) (z : Y) → ((x : X) → P x → Q (f x)) → Q z → (xs : List X) (k : ℕ) → AllByRecursion P xs → Q (pick xs k f z)
pick_all P Q f z h e [] k a = e
pick_all P Q f z h e (x ∷ xs) zero a = h x a.0
pick_all P Q f z h e (x ∷ xs) (suc k) a = pick_all P Q f z h e xs k a.1

balanced_inside : {W T : Type 0} (s : Scale W T) (ws : List W) (f : ℕ) (c : WeighedCondition W) → balanced s c ws f ≡ true → f ⊆ c.domain
balanced_inside s ws f c h =
    and_sub_of f c.domain (eqb-true (bit_and f c.domain) f (and_parts (inside f c.domain) (within s (s.bound c.low) (s.bound c.high) (total s c ws f)) h).0)

-- so few conditions, and domains so narrow, are enough: the tables need not be valid otherwise
pub weighed_lawful : {W T : Type 0} (s : Scale W T) (cs : List (WeighedCondition W)) (ws : List W)
    → length cs ≤ 256 → ((k : ℕ) → size (pick cs k (λ c. c.domain) 0) ≤ 12) → Lawful (weighed s cs ws)
weighed_lawful s cs ws few narrow = record {
  few = omega arith;
  narrow = narrow;
  inside = λ k f. pick_both (λ (b : Bool) (d : ℕ). b ≡ true → f ⊆ d) cs k (λ c. balanced s c ws f) false (λ c. c.domain) 0
      (balanced_inside s ws f) (λ h. absurd (both_ways false refl h));
  no_domain = λ k h. pick_past cs k (λ c. c.domain) 0 h;
  no_family = λ k f h. pick_past cs k (λ c. balanced s c ws f) false h;
}

pub valid_lawful : {W T : Type 0} (s : Scale W T) (cs : List (WeighedCondition W)) (ws : List W) → Valid s cs ws → Lawful (weighed s cs ws)
valid_lawful s cs ws v =
    weighed_lawful s cs ws v.0 (λ k. pick_all (Sound s ws) (λ (d : ℕ). size d ≤ 12) (λ c. c.domain) 0 (λ c h. h.0) no_decisions cs k v.1)
  where
    no_decisions : size 0 ≤ 12
    no_decisions = omega (arith, ones-le 0 0 (lit< tt))
