use Rattle.std.proofs.Common.{◌≡◌, ℕ, ◌^◌, ◌<◌, ◌≤◌, min, Bool, true, false, List, length, get_or, Decides, refl, sym, ap₂, subst, ◌∙◌, zero-le, arith, rules, tests}
use Rattle.std.specs.Bool.{MatchBool}
use Rattle.std.specs.List.{AllWithin, HoldsAt, zip, range_with_len}
use Rattle.std.proofs.lemmas.Bool.{both_ways}
use Rattle.std.proofs.lemmas.Iterator.{YieldsList-from_slice, YieldsList-from_zip, YieldsList-from_range, cases_from_all}
use Rattle.std.proofs.lemmas.Iterator.Consumers.{YieldsList-at}
use Rattle.std.proofs.lemmas.List.FromFn.{length-range_with_len, get_or-range_with_len}
use Rattle.std.proofs.lemmas.Grind.{get_or_default_zero}
use Rattle.std.proofs.lemmas.Slice.Zip.{length-zip, get_or-zip}
use Rattle.sets.specs.Sets.{◌∈◌, ◌∉◌}
use Rattle.sets.proofs.Members.{member_below}
use Rattle.answer_sets.specs.Rules.{Ranked}
use Rattle.judge.proofs.bearing.ranked.Goals as goal

-- each decision's number beside its rank
abbrev paired : List ℕ → List (ℕ × ℕ)
paired xs = zip (range_with_len 0 64) xs

abbrev Fits : ℕ → ℕ × ℕ → Type 0
Fits s p = (p.0 ∉ s → p.1 ≡ 0) × (p.0 ∈ s → (1 ≤ p.1) × (p.1 ≤ 255))

module _ (s : ℕ) (fits : s < 2 ^ 64) (xs : List ℕ) (all : length xs ≡ 64) where
  many : length (paired xs) ≡ 64
  many = length-zip (range_with_len 0 64) xs ∙ ap₂ min (length-range_with_len 0 64) all

  number : (d c : ℕ) → d < 64 → get_or (range_with_len 0 64) d c ≡ d
  number d c l = let e = get_or-range_with_len 0 64 d c l in omega arith

  at : (d : ℕ) (p : ℕ × ℕ) → d < 64 → get_or (paired xs) d p ≡ (d, get_or xs d 0)
  at d p l =
      get_or-zip (range_with_len 0 64) xs d p (subst (λ (n : ℕ). d < n) (sym (length-range_with_len 0 64)) l) (subst (λ (n : ℕ). d < n) (sym all) l)
      ∙ ap₂ (λ (n m : ℕ). (n, m)) (number d p.0 l) (get_or_default_zero xs d p.1 (subst (λ (n : ℕ). d < n) (sym all) l))

  each_fits : (r : Bool) → MatchBool r (AllWithin (Fits s) (paired xs) 0 (length (paired xs))) ((k : ℕ) × (k < length (paired xs)) × HoldsAt (λ p. Fits s p → ⊥) (paired xs) k)
      → Decides r (Ranked s xs)
  each_fits true h = (
    (λ _. record {
      places = all;
      outside = λ d l o. (one d l).0 o;
      inside = λ d i. (one d (member_below 64 s d fits i)).1 i;
    }),
    (λ _. refl),
  )
    where
      one : (d : ℕ) → d < 64 → Fits s (d, get_or xs d 0)
      one d l = subst (Fits s) (at d (0, 0) l) (h d (0, 0) zero-le (subst (λ (n : ℕ). d < n) (sym many) l))
  each_fits false h = (
    (λ e. absurd (both_ways false refl e)),
    (λ r. let l = subst (λ (n : ℕ). h.0 < n) many h.1 in
        absurd (h.2 (0, 0) (subst (Fits s) (sym (at h.0 (0, 0) l)) (r.outside h.0 l, r.inside h.0)))),
  )

pub returns-then-ranks-eq64 : goal.returns-then-ranks-eq64
returns-then-ranks-eq64 c =
    let s = c.args.set in let xs = c.args.ranks.now in
    each_fits s c.ranges.set.fits xs (search (rules, tests)) c.all.result
    (cases_from_all c.all.new.self _ c.all.result (Fits s) (λ p. Fits s p → ⊥) c.all.ensures.ran
    (YieldsList-from_zip (YieldsList-at c.zip.ensures.first (YieldsList-from_range 0 64 64 refl refl)) (YieldsList-from_slice xs c.zip.ensures.second.0))
    (λ x q k. search (rules, tests)) (λ x q k. search (rules, tests)))
