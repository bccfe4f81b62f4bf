-- The constant tables are valid, and what they mean.
use Rattle.std.proofs.Common.{◌≡◌, ℕ, zero, suc, ◌<◌, ◌≤◌, true, false, eqb, List, [], ◌∷◌, get_or, ℤ, pos, Ok, Err, Result, sym, refl, ◌∙◌, ⊎_elim, not-suc-le-zero, arith, lit<, lit≤, MatchResult}
use lib.Bits.{bit_and, and_le_r}
use lib.Count.{ones}
use Rattle.std.specs.List.{AllByRecursion}
use Rattle.std.proofs.lemmas.Bool.{ne_eqb, and_left, or_from, cases_lt, agree_below, agree_below_at}
use Rattle.banks.specs.Beside.{beside, at_number, number_past}
use Rattle.banks.specs.Meaning.{Meaning}
use Rattle.listed.specs.Tables.{listed, Valid, Sound, Inside}
use Rattle.measures.specs.Grades.{grades}
use Rattle.measures.specs.Kilos.{kilos}
use Rattle.measures.specs.Scales.{Scale}
use Rattle.sets.specs.Lists.{member, Ascends}
use Rattle.sets.specs.Sets.{has, ◌⊆◌, inside}
use Rattle.sets.specs.Walks.{decisions_below}
use Rattle.sets.proofs.Members.{and_sub_of}
use Rattle.weighed.specs.Tables as w
use Rattle.weighed.specs.Totals.{within}
use Rattle.weighed.specs.declared.condition.WeighedCondition.{WeighedCondition}
use Rattle.house.specs.House.{written, kilo_sets, grade_sets, listed_part, kilo_part, grade_part, house}
use Rattle.house.specs.declared.tables.TheConstants.{LISTED, SETS, KILOS, KILO_WEIGHTS, GRADES, GRADE_WEIGHTS}

-- a load of valid tables was taken
pub taken : {A E : Type 0} (r : Result A E) (V P R : Type 0) (S : E → Type 0) → MatchResult r (λ _. V × P) (λ e. (V → ⊥) × S e × R) → V → P
taken (Ok a) V P R S c v = c.1
taken (Err e) V P R S c v = absurd (c.0 v)

-- ---- listed

two_ascends : (x y : ℕ) → x < y → Ascends (x ∷ y ∷ [])
two_ascends x y h zero l = h
two_ascends x y h (suc i) l = absurd (omega arith)

one_inside : (x d : ℕ) → x ⊆ d → Inside (x ∷ []) d
one_inside x d h zero l = h
one_inside x d h (suc i) l = absurd (omega arith)

two_inside : (x y d : ℕ) → x ⊆ d → y ⊆ d → Inside (x ∷ y ∷ []) d
two_inside x y d h k zero l = h
two_inside x y d h k (suc i) l = one_inside y d k i (omega arith)

pub lines_valid : Valid LISTED SETS
unfolding ones
lines_valid = (lit≤ tt, sound)
  where
    sound : (k : ℕ) → k < 3 → Sound (get_or LISTED k (record { domain = 0; first = 0; len = 0 })) SETS
    sound zero h = (lit≤ tt, lit≤ tt, (λ i l. absurd (omega arith)), one_inside 1 1 (and_sub_of 1 1 refl))
    sound (suc zero) h = (lit≤ tt, lit≤ tt, (λ i l. absurd (omega arith)), one_inside 2 2 (and_sub_of 2 2 refl))
    sound (suc (suc zero)) h = (lit≤ tt, lit≤ tt, two_ascends 0 3 (lit< tt), two_inside 0 3 3 (and_sub_of 0 3 refl) (and_sub_of 3 3 refl))
    sound (suc (suc (suc k))) h = absurd (omega arith)

-- two meanings with the same count, domains and families are the same
same_meaning : (m n : Meaning) → m.count ≡ n.count → ((k : ℕ) → m.domain k ≡ n.domain k) → ((k f : ℕ) → m.family k f ≡ n.family k f) → m ≡ n
same_meaning m n c d f = λ i. record { count = c i; domain = λ k. d k i; family = λ k x. f k x i }

pub lines_mean : listed LISTED SETS ≡ listed_part
lines_mean = same_meaning (listed LISTED SETS) listed_part refl domains families
  where
    domains : (k : ℕ) → (listed LISTED SETS).domain k ≡ listed_part.domain k
    domains zero = refl
    domains (suc zero) = refl
    domains (suc (suc zero)) = refl
    domains (suc (suc (suc k))) = refl

    families : (k x : ℕ) → (listed LISTED SETS).family k x ≡ listed_part.family k x
    families zero x = refl
    families (suc zero) x = refl
    families (suc (suc zero)) x = refl
    families (suc (suc (suc k))) x = refl

-- ---- weighed

pub kilos_valid : w.Valid kilos KILOS KILO_WEIGHTS
unfolding ones
kilos_valid = (lit≤ tt, ((lit≤ tt, lit≤ tt, refl, refl, (refl, (refl, (refl, tt)))), tt))

pub grades_valid : w.Valid grades GRADES GRADE_WEIGHTS
unfolding ones
grades_valid = (lit≤ tt, ((lit≤ tt, lit≤ tt, refl, refl, (refl, (refl, tt))), tt))

-- a number stands in no list of smaller numbers
far : (x : ℕ) (xs : List ℕ) → AllByRecursion (λ y. y < 8) xs → 8 ≤ x → member x xs ≡ false
far x [] a h = refl
far x (y ∷ ys) a h = or_from (eqb y x) (member x ys) (ne_eqb y x (λ e. let l = a.0 in omega arith)) (far x ys a.1 h)

-- a family over the decisions 0, 1 and 2 is a list of their sets where the two agree at the eight sets; from 8 on neither has a number
family_is : {W T : Type 0} (s : Scale W T) (c : WeighedCondition W) (ws : List W) (sets : List ℕ) → c.domain ≤ 7 → AllByRecursion (λ y. y < 8) sets
    → agree_below (w.balanced s c ws) (λ f. member f sets) 8 ≡ true → (f : ℕ) → w.balanced s c ws f ≡ member f sets
family_is s c ws sets low few eight f = ⊎_elim
    (agree_below_at (w.balanced s c ws) (λ f. member f sets) 8 f eight)
    (λ h. and_left (inside f c.domain) (within s (s.bound c.low) (s.bound c.high) (w.total s c ws f))
    (ne_eqb (bit_and f c.domain) f (λ e. let l = and_le_r f c.domain in omega arith)) ∙ sym (far f sets few h))
    (cases_lt f 8)

-- a table of one condition means its domain and its sets
one_means : {W T : Type 0} (s : Scale W T) (c : WeighedCondition W) (ws : List W) (sets : List ℕ) → ((f : ℕ) → w.balanced s c ws f ≡ member f sets)
    → w.weighed s (c ∷ []) ws ≡ written (c.domain ∷ []) (sets ∷ [])
one_means s c ws sets each = same_meaning (w.weighed s (c ∷ []) ws) (written (c.domain ∷ []) (sets ∷ [])) refl domains families
  where
    domains : (k : ℕ) → (w.weighed s (c ∷ []) ws).domain k ≡ (written (c.domain ∷ []) (sets ∷ [])).domain k
    domains zero = refl
    domains (suc k) = refl

    families : (k f : ℕ) → (w.weighed s (c ∷ []) ws).family k f ≡ (written (c.domain ∷ []) (sets ∷ [])).family k f
    families zero f = each f
    families (suc k) f = refl

abbrev kilo_line : WeighedCondition ℤ
kilo_line = record { domain = 7; low = pos 1; high = pos 5; first = 0 }

abbrev grade_line : WeighedCondition ℕ
grade_line = record { domain = 5; low = 0; high = 3; first = 0 }

pub kilos_mean : w.weighed kilos KILOS KILO_WEIGHTS ≡ kilo_part
unfolding has decisions_below ones
kilos_mean = one_means kilos kilo_line KILO_WEIGHTS kilo_sets
    (family_is kilos kilo_line KILO_WEIGHTS kilo_sets (lit≤ tt) (lit< tt, (lit< tt, (lit< tt, (lit< tt, (lit< tt, (lit< tt, tt)))))) refl)

pub grades_mean : w.weighed grades GRADES GRADE_WEIGHTS ≡ grade_part
unfolding has decisions_below ones
grades_mean = one_means grades grade_line GRADE_WEIGHTS grade_sets
    (family_is grades grade_line GRADE_WEIGHTS grade_sets (lit≤ tt) (lit< tt, (lit< tt, tt)) refl)

-- ---- the three side by side

no_domain : (j : ℕ) → 1 ≤ j → grade_part.domain j ≡ 0
no_domain zero h = absurd (not-suc-le-zero h)
no_domain (suc j) h = refl

no_family : (x j : ℕ) → 1 ≤ j → grade_part.family j x ≡ false
no_family x zero h = absurd (not-suc-le-zero h)
no_family x (suc j) h = refl

-- past the five there is nothing
past_number : {X : Type 0} (k : ℕ) (a b c : ℕ → X) (z : X) → ((j : ℕ) → 1 ≤ j → c j ≡ z)
    → at_number 3 (suc (suc (suc (suc (suc k))))) a (λ j. at_number 1 j b c z) z ≡ z
past_number k a b c z past =
    number_past 3 (suc (suc (suc (suc (suc k))))) a (λ j. at_number 1 j b c z) z 2
    (λ j h. number_past 1 j b c z 1 past (omega arith)) (omega arith)

pub parts_mean : beside listed_part (beside kilo_part grade_part) ≡ house
parts_mean = same_meaning (beside listed_part (beside kilo_part grade_part)) house refl domains families
  where
    domains : (k : ℕ) → (beside listed_part (beside kilo_part grade_part)).domain k ≡ house.domain k
    domains zero = refl
    domains (suc zero) = refl
    domains (suc (suc zero)) = refl
    domains (suc (suc (suc zero))) = refl
    domains (suc (suc (suc (suc zero)))) = refl
    domains (suc (suc (suc (suc (suc k))))) = past_number k listed_part.domain kilo_part.domain grade_part.domain 0 no_domain

    families : (k x : ℕ) → (beside listed_part (beside kilo_part grade_part)).family k x ≡ house.family k x
    families zero x = refl
    families (suc zero) x = refl
    families (suc (suc zero)) x = refl
    families (suc (suc (suc zero))) x = refl
    families (suc (suc (suc (suc zero)))) x = refl
    families (suc (suc (suc (suc (suc k))))) x = past_number k (λ j. listed_part.family j x) (λ j. kilo_part.family j x) (λ j. grade_part.family j x) false (no_family x)
