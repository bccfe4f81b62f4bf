-- The candidates of a search: how many they are, and that every answer set is among them.
use Rattle.std.proofs.Common.{◌≡◌, ℕ, ◌^◌, ◌<◌, ◌≤◌, true, not, leb, List, [], ◌∷◌, ◌++◌, length, sym, refl, ap, ◌∙◌, subst, ⊎_elim, arith, pow_mono}
use lib.Bits.{bit_xor, and_zero_r, xor_zero_r}
use Rattle.std.specs.List.{AllByRecursion}
use Rattle.std.proofs.lemmas.List.Filters.{length-filter_both}
use Rattle.sets.specs.Sets.{◌⊆◌, ◌∖◌, size}
use Rattle.sets.specs.Lists.{member}
use Rattle.sets.specs.Walks.{sets_between}
use Rattle.sets.proofs.Members.{sub_lt}
use Rattle.sets.proofs.Ascending.{member_append, member_append_right, member_cases, member_head, all_member, Sorted}
use Rattle.sets.proofs.Listing.{between_listed, in_from, to_from, sorted_from}
use Rattle.sets.proofs.Seeking.{none_inside}
use Rattle.banks.specs.Meaning.{Meaning}
use Rattle.answer_sets.specs.Rules.{Way, Rule, Borne}
use Rattle.answer_sets.proofs.Answer.{borne_is_answer_set}
use Rattle.answer_sets.proofs.Bearing.{given}
use Rattle.search.specs.Search.{Heads, candidates, LowestAnswer, NoAnswer}

sorted_right : (xs ys : List ℕ) → Sorted (xs ++ ys) → Sorted ys
sorted_right [] ys s = s
sorted_right (x ∷ xs) ys s = sorted_right xs ys s.1

module _ (H : ℕ) (fits : H < 2 ^ 64) (start : ℕ) where
  pub in_candidates : (z : ℕ) → member z (candidates start H) ≡ true → (z ⊆ H) × (start ≤ z)
  in_candidates z m = let k = in_from 0 H 0 (none_inside H) fits (none_inside 0, none_inside H) start z m in (k.0.1, k.1)

  to_candidates : (z : ℕ) → z ⊆ H → start ≤ z → member z (candidates start H) ≡ true
  to_candidates z h l = to_from 0 H 0 (none_inside H) fits (none_inside 0, none_inside H) start z (none_inside z, h) l

  pub sorted_candidates : Sorted (candidates start H)
  sorted_candidates = sorted_from 0 H 0 (none_inside H) fits (none_inside 0, none_inside H) start

  -- at most sixteen heads draw at most 65,536 sets
  pub few_candidates : size H ≤ 16 → length (candidates start H) ≤ 65536
  few_candidates h =
      let all = between_listed.counted 0 H (none_inside H) fits in
      let same : size (H ∖ 0) ≡ size H = ap size (ap (bit_xor H) (and_zero_r H) ∙ xor_zero_r H) in
      let less : 2 ^ size (H ∖ 0) ≤ 2 ^ 16 = pow_mono {j = 16} (omega arith) in
      let part = length-filter_both (λ (s : ℕ). leb start s) (λ (s : ℕ). not (leb start s)) (λ s. refl) (sets_between 0 H) in
      omega arith

  module _ (m : Meaning) (w : Way) (rules : List Rule) (drawn : Heads rules H) where
    -- an answer set is drawn from the heads, and so it is among the candidates
    pub borne_candidate : (n : ℕ) → start ≤ n → Borne m w rules n → member n (candidates start H) ≡ true
    borne_candidate n l b = to_candidates n (λ d h. (drawn d).1 (given m w rules n b d h)) l

    pub lowest_answer : (s : ℕ) (before after : List ℕ) → candidates start H ≡ before ++ s ∷ after → Borne m w rules s
        → AllByRecursion (λ n. Borne m w rules n → ⊥) before → LowestAnswer m w rules start s
    lowest_answer s before after split b none =
        let k = in_candidates s (subst (λ (l : List ℕ). member s l ≡ true) (sym split) (member_append_right s before (s ∷ after) (member_head s after))) in
        let small : s < 2 ^ 64 = sub_lt 64 s H k.0 fits in
        let later : Sorted (s ∷ after) = sorted_right before (s ∷ after) (subst Sorted split sorted_candidates) in
        record {
          fits = small;
          not_below = k.1;
          answer = (borne_is_answer_set m w rules s small).0 b;
          lowest = λ n l g a.
              let c : Borne m w rules n = (borne_is_answer_set m w rules n l).1 a in
              ⊎_elim
              (λ i. absurd (all_member (λ x. Borne m w rules x → ⊥) before none n i c))
              (λ i. ⊎_elim (λ (e : s ≡ n). omega arith) (λ j. let q = all_member (λ x. s < x) after later.0 n j in omega arith) (member_cases n s after i))
              (member_append n before (s ∷ after) (subst (λ (x : List ℕ). member n x ≡ true) split (borne_candidate n g c)));
        }

    pub no_answer : AllByRecursion (λ n. Borne m w rules n → ⊥) (candidates start H) → NoAnswer m w rules start
    no_answer none n l g a =
        let c : Borne m w rules n = (borne_is_answer_set m w rules n l).1 a in
        all_member (λ x. Borne m w rules x → ⊥) (candidates start H) none n (borne_candidate n g c) c
