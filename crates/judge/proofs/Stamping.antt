-- The ranks that the loop over the rounds gives.
use Rattle.std.proofs.Common.{◌≡◌, ℕ, suc, ◌+◌, ◌^◌, ◌<◌, ◌≤◌, Bool, cond, ◌&&◌, eqb, List, length, get_or, sym, refl, ap, ◌∙◌, subst, inl, inr, ⊎_elim, le_refl, eq-or-lt_of_le, arith}
use native.Mathlib.Decide.{le_ind}
use lib.Arith.{le-zero}
use Rattle.std.specs.List.{AllByRecursion}
use Rattle.std.proofs.lemmas.Bool.{both_ways, cases_Bool, cases_lt, and_from, and_left, and_right, cond-true, cond-false, eq-eqb, ne_eqb}
use Rattle.banks.specs.Meaning.{Meaning}
use Rattle.sets.specs.Sets.{has, ◌∈◌, ◌∉◌, ◌⊆◌, ◌∩◌, collect}
use Rattle.sets.proofs.Members.{has_none, member_below, sub_and, sub_antisym}
use Rattle.answer_sets.specs.Rounds.{Rounds}
use Rattle.answer_sets.specs.Rules.{Way, Rule, Keeps, Borne}
use Rattle.answer_sets.specs.Tests.{derives, round}
use Rattle.answer_sets.proofs.Answer.{rounds_are}
use Rattle.answer_sets.proofs.Bearing.{bears_of, borne_full}
use Rattle.answer_sets.proofs.Carry.{derives_sound, derives_complete, derives_mono, derives_inside}
use Rattle.answer_sets.proofs.Core.{round_of, round_ranks, ranks_are, round_of_none, round_of_first, all_rounds, round_in, round_up, round_suc, from_round, to_round}
use Rattle.judge.specs.Reached.{GivenBy, Stamped}

pub none_first : (der : ℕ → ℕ → Bool) (d : ℕ) → d ∉ round der 0
unfolding round
none_first der d = has_none d

pub stamped_none : (der : ℕ → ℕ → Bool) (d : ℕ) → Stamped der 0 d 0
stamped_none der d = inl (refl, λ j l. subst (λ (x : ℕ). d ∉ round der x) (sym (le-zero l)) (none_first der d))

pub stamped_more : (der : ℕ → ℕ → Bool) (i d v w : ℕ) → Stamped der i d v
    → w ≡ cond (eqb v 0 && has (round der (i + 1)) d) (i + 1) v → Stamped der (i + 1) d w
stamped_more der i d v w (inl s) e = ⊎_elim
    (λ (h : d ∈ round der (i + 1)).
    let t : w ≡ i + 1 = e ∙ cond-true (eqb v 0 && has (round der (i + 1)) d) (i + 1) v (and_from (eqb v 0) (has (round der (i + 1)) d) (eq-eqb v 0 s.0) h) in
    inr (omega arith, subst (λ (x : ℕ). d ∈ round der x) (sym t) h, λ j l. s.1 j (omega arith)))
    (λ (h : d ∉ round der (i + 1)).
    let t : w ≡ v = e ∙ cond-false (eqb v 0 && has (round der (i + 1)) d) (i + 1) v (and_right (eqb v 0) (has (round der (i + 1)) d) h) in
    inl (t ∙ s.0, λ j l. ⊎_elim (λ (q : j ≡ i + 1). subst (λ (x : ℕ). d ∉ round der x) (sym q) h) (λ (q : j < i + 1). s.1 j (omega arith)) (eq-or-lt_of_le l)))
    (cases_Bool (has (round der (i + 1)) d))
stamped_more der i d v w (inr s) e =
    let nz : v ≡ 0 → ⊥ = λ z. both_ways (has (round der 0) d) (none_first der d) (subst (λ (x : ℕ). d ∈ round der x) z s.1) in
    let t : w ≡ v = e ∙ cond-false (eqb v 0 && has (round der (i + 1)) d) (i + 1) v (and_left (eqb v 0) (has (round der (i + 1)) d) (ne_eqb v 0 nz)) in
    let le : v ≤ i = s.0 in
    inr (omega arith, subst (λ (x : ℕ). d ∈ round der x) (sym t) s.1, λ j l. s.2 j (omega arith))

-- ---- a round that adds nothing is the last

pub stays : (der : ℕ → ℕ → Bool) (i : ℕ) → round der (suc i) ≡ round der i → (j : ℕ) → i ≤ j → round der j ≡ round der i
stays der i e j l =
    le_ind (λ (k : ℕ). round der k ≡ round der i) refl
    (λ k _ ih. round_suc der k ∙ ap (λ (s : ℕ). collect 64 (der s)) ih ∙ sym (round_suc der i) ∙ e) j l

pub stamped_last : (der : ℕ → ℕ → Bool) (i d v : ℕ) → i ≤ 64 → round der (suc i) ≡ round der i → Stamped der i d v → Stamped der 64 d v
stamped_last der i d v l e (inl s) =
    inl (
      s.0,
      λ j k. ⊎_elim
          (λ (a : j < i). s.1 j (omega arith))
          (λ (a : i ≤ j). subst (λ (x : ℕ). d ∉ x) (sym (stays der i e j a)) (s.1 i (le_refl i)))
          (cases_lt j i),
    )
stamped_last der i d v l e (inr s) = let k = s.0 in inr (omega arith, s.1, s.2)

-- ---- one pass over the rules is one round

module _ (m : Meaning) (w : Way) (rules : List Rule) (M : ℕ) (M< : M < 2 ^ 64) (kept : AllByRecursion (Keeps m M) rules) where
  pub reached_in : (i : ℕ) → round (derives m w rules M) i ⊆ M
  reached_in = round_in M M< (derives m w rules M) (derives_mono m w rules M M<) (derives_inside m w rules M M< kept)

  pub filled_stays : (i : ℕ) → round (derives m w rules M) i ≡ M → round (derives m w rules M) (suc i) ≡ round (derives m w rules M) i
  filled_stays i e =
      sub_antisym (round (derives m w rules M) (suc i)) (round (derives m w rules M) i)
      (λ d h. subst (λ (x : ℕ). d ∈ x) (sym e) (reached_in (suc i) d h))
      (round_up M M< (derives m w rules M) (derives_mono m w rules M M<) (derives_inside m w rules M M< kept) i)

  pub pass_is_round : (i reached lo up next : ℕ) → reached ≡ round (derives m w rules M) i → lo ≡ reached ∩ M → up ≡ M
      → ((d : ℕ) → GivenBy m w lo up rules d next) → next ≡ round (derives m w rules M) (suc i)
  pass_is_round i reached lo up next e is-lo is_up given =
      let at : lo ≡ round der i = is-lo ∙ ap (λ (x : ℕ). x ∩ M) e ∙ sub_and (round der i) M (reached_in i) in
      let by : (d : ℕ) → GivenBy m w (round der i) M rules d next = λ d.
      subst (λ (x : ℕ). GivenBy m w x M rules d next) at (subst (λ (x : ℕ). GivenBy m w lo x rules d next) is_up (given d)) in
      sub_antisym next (round der (suc i))
      (λ d h. ⊎_elim
      (λ k. round_up M M< der (derives_mono m w rules M M<) (derives_inside m w rules M M< kept) i d k)
      (λ k. to_round M M< der (derives_mono m w rules M M<) (derives_inside m w rules M M< kept) i d (derives_complete m w rules M M< (round der i) d (reached_in i) k))
      ((by d).0 h))
      (λ d h. (by d).1 (inr (derives_sound m w rules M M< (round der i) d
      (from_round M M< der (derives_mono m w rules M M<) (derives_inside m w rules M M< kept) i d h))))
    where
      der : ℕ → ℕ → Bool
      der = derives m w rules M

-- ---- stamped ranks are the rounds

module _ (m : Meaning) (w : Way) (rules : List Rule) (M : ℕ) (M< : M < 2 ^ 64) (kept : AllByRecursion (Keeps m M) rules)
    (ranks : List ℕ) (stamps : (d : ℕ) → d < 64 → Stamped (derives m w rules M) 64 d (get_or ranks d 0)) where
  abbrev der : ℕ → ℕ → Bool
  der = derives m w rules M

  is_round : (d : ℕ) → d < 64 → get_or ranks d 0 ≡ round_of der d
  is_round d l = ⊎_elim
      (λ s. s.0 ∙ sym (round_of_none der d (s.1 64 (le_refl 64))))
      (λ s. sym (round_of_first M M< der (derives_mono m w rules M M<) (derives_inside m w rules M M< kept) d (get_or ranks d 0) s.1 s.2))
      (stamps d l)

  full : ((d : ℕ) → d ∈ M → get_or ranks d 0 ≡ 0 → ⊥) → M ⊆ round der 64
  full h d i = ⊎_elim
      (λ s. absurd (h d i s.0))
      (λ s. all_rounds M M< der (derives_mono m w rules M M<) (derives_inside m w rules M M< kept) (get_or ranks d 0) d s.1)
      (stamps d (member_below 64 M d M< i))

  pub stamped_rounds : length ranks ≡ 64 → ((d : ℕ) → d ∈ M → get_or ranks d 0 ≡ 0 → ⊥) → Rounds m w rules M ranks
  stamped_rounds n h =
      subst (λ (xs : List ℕ). Rounds m w rules M xs) (sym (ranks_are der ranks n is_round))
      (rounds_are m w rules M M< (round_ranks der, bears_of m w rules M M< kept (full h)))

  pub borne_ranked : Borne m w rules M → (d : ℕ) → d ∈ M → get_or ranks d 0 ≡ 0 → ⊥
  borne_ranked b d i z = ⊎_elim
      (λ s. both_ways (has (round der 64) d) (s.1 64 (le_refl 64)) (borne_full m w rules M M< b d i))
      (λ s. both_ways (has (round der 0) d) (none_first der d) (subst (λ (x : ℕ). d ∈ round der x) z s.1))
      (stamps d (member_below 64 M d M< i))
