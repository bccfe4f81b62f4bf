-- Decisions that are collected in a set, and ranks that are given to decisions in turn.
use Rattle.std.proofs.Common.{◌≡◌, ℕ, zero, suc, ◌^◌, ◌<◌, Bool, true, false, cond, ◌&&◌, ◌||◌, eqb, List, [], ◌∷◌, ◌++◌, length, get_or, set, filter, refl, ap, ◌∙◌, arith}
use Rattle.std.specs.List.{fold}
use Rattle.std.proofs.lemmas.List.Elements.{filter-append}
use Rattle.std.proofs.lemmas.List.Sums.{fold-append}
use Rattle.std.proofs.lemmas.Bool.{and_from, and_left, and_right}
use Rattle.std.proofs.lemmas.Bool.Decides.{nat_tests}
use Rattle.std.proofs.lemmas.Grind.{common_steps}
use Rattle.sets.specs.Sets.{has, ◌∪◌, single, collect}
use Rattle.sets.specs.Lists.{member}
use Rattle.sets.specs.Walks.{decisions, decisions_below}
use Rattle.sets.proofs.Members.{same_test}
use Rattle.sets.proofs.Collecting.{collect_in, collect_out}
use Rattle.sets.proofs.Listing.{decisions_listed}

-- ---- what a filter and a fold collect

collected : (n s : ℕ) (p : ℕ → Bool) → fold (λ a d. a ∪ single d) 0 (filter p (decisions_below n s)) ≡ collect n (λ d. has s d && p d)
unfolding collect decisions_below
collected zero s p = refl
collected (suc n) s p =
    let front = decisions_below n s in
    ap (fold (λ a d. a ∪ single d) 0) (filter-append p front (cond (has s n) (n ∷ []) []))
    ∙ fold-append (λ a d. a ∪ single d) 0 (filter p front) (filter p (cond (has s n) (n ∷ []) []))
    ∙ ap (λ (a : ℕ). fold (λ a d. a ∪ single d) a (filter p (cond (has s n) (n ∷ []) []))) (collected n s p)
    ∙ last (has s n) (p n) refl refl
  where
    q : ℕ → Bool
    q d = has s d && p d

    last : (b c : Bool) → has s n ≡ b → p n ≡ c
        → fold (λ a d. a ∪ single d) (collect n q) (filter p (cond b (n ∷ []) [])) ≡ collect (suc n) q
    last true true h k = rw k (collect_in n q (and_from (has s n) (p n) h k))
    last true false h k = rw k (collect_out n q (and_right (has s n) (p n) k))
    last false c h k = collect_out n q (and_left (has s n) (p n) h)

pub collected_all : (s : ℕ) (p : ℕ → Bool) → fold (λ a d. a ∪ single d) 0 (filter p (decisions s)) ≡ collect 64 (λ d. has s d && p d)
collected_all s p = collected 64 s p

-- ---- ranks that are given to decisions in turn

-- the decisions of a list that had no rank have rank i, and the others have what they had
abbrev pub StampedAt : ℕ → List ℕ → List ℕ → List ℕ → Type 0
StampedAt i before given now = (k : ℕ) → k < 64 → get_or now k 0 ≡ cond (eqb (get_or before k 0) 0 && member k given) i (get_or before k 0)

or_none : (b : Bool) → (b || false) ≡ b
or_none true = refl
or_none false = refl

or_more : (b c d : Bool) → (b || (c || d)) ≡ ((b || c) || d)
or_more true c d = refl
or_more false c d = refl

member_push : (k d : ℕ) (xs : List ℕ) → member k (xs ++ d ∷ []) ≡ (member k xs || eqb d k)
member_push k d [] = or_none (eqb d k)
member_push k d (x ∷ xs) = ap (λ (b : Bool). eqb x k || b) (member_push k d xs) ∙ or_more (eqb x k) (member k xs) (eqb d k)

pub stamped_none : (i : ℕ) (before : List ℕ) → StampedAt i before [] before
stamped_none i before k l = grind (arith, common_steps, nat_tests)

pub stamped_push : (i d : ℕ) (before given now next : List ℕ) → d < 64 → length now ≡ 64 → StampedAt i before given now
    → next ≡ cond (eqb (get_or now d 0) 0) (set now d i) now → StampedAt i before (given ++ d ∷ []) next
stamped_push i d before given now next small all h e k l = rw member_push (grind (arith, common_steps, nat_tests, h k l))

pub stamped_all : (s : ℕ) → s < 2 ^ 64 → (i : ℕ) (before now : List ℕ) → StampedAt i before (decisions s) now
    → (k : ℕ) → k < 64 → get_or now k 0 ≡ cond (eqb (get_or before k 0) 0 && has s k) i (get_or before k 0)
stamped_all s fits i before now h k l =
    h k l ∙ ap (λ (b : Bool). cond (eqb (get_or before k 0) 0 && b) i (get_or before k 0))
    (same_test (member k (decisions s)) (has s k) (decisions_listed.exactly s k fits).0 (decisions_listed.exactly s k fits).1)
