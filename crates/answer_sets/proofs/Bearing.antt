-- Ranks bear M exactly where M is full of the rounds.
use Rattle.std.proofs.Common.{◌≡◌, ℕ, zero, suc, ◌^◌, ◌<◌, ◌≤◌, Bool, true, false, not, eqb, List, length, refl, inl, inr, ⊎_elim, zero-le, le_trans, le_of_eq, le_refl, le_of_suc-le-suc, not-suc-le-zero, arith}
use lib.ListN.{get_or-eq_default}
use Rattle.std.specs.List.{AllByRecursion}
use Rattle.std.proofs.lemmas.Bool.{cases_Bool, cases_lt, both_ways, and_parts, and_from, or_cases, or_left, or_right, eqb-true, eq-eqb, not-true, not_from_false}
use Rattle.sets.specs.Sets.{has, ◌∈◌, ◌∉◌, ◌⊆◌, ◌∩◌}
use Rattle.banks.specs.Meaning.{Meaning}
use Rattle.answer_sets.specs.Rules.{Way, reduct, complement, Head, decision, no_head, Rule, holds, HeadIn, Keeps, Carried, CanGive, Gives, rank, below, Bears, Borne}
use Rattle.answer_sets.specs.Theorems.{Minimal, ComplementReduct, Given}
use Rattle.answer_sets.specs.Tests.{allb, anyb, derives, round, in_head, keepsb, borneb}
use Rattle.sets.proofs.Members.{sub_antisym, sub_and, and_sub_of, member_below}
use Rattle.sets.proofs.Collecting.{outsider}
use Rattle.answer_sets.proofs.Each.{allb_all, all_allb, anyb_any, any_anyb, all_to, any_to, any_all, any_out}
use Rattle.answer_sets.proofs.Core as core
use Rattle.answer_sets.proofs.Core.{in_below, round_ranks, rank_round, length_round}
use Rattle.answer_sets.proofs.Carry.{derives_sound, derives_complete, derives_mono, derives_inside, carried_span, carried_weaker, head_kept}

pub below_in : (M : ℕ) (ranks : List ℕ) (b : ℕ) → below M ranks b ⊆ M
below_in M ranks b d h = (in_below M ranks b d h).0

module _ (m : Meaning) (M : ℕ) where
  in_head_sound : (h : Head) → in_head M h ≡ true → HeadIn h M
  in_head_sound (decision d) e = e
  in_head_sound no_head e = absurd (both_ways false refl e)

  in_head_complete : (h : Head) → HeadIn h M → in_head M h ≡ true
  in_head_complete (decision d) e = e
  in_head_complete no_head e = absurd e

  pub keeps_sound : (r : Rule) → keepsb m M r ≡ true → Keeps m M r
  keeps_sound r e = ⊎_elim
      (λ h. inl (in_head_sound r.head h))
      (λ h. inr (anyb_any (λ e. not (holds m e M)) (λ e. holds m e M ≡ false) (λ x k. not-true (holds m x M) k) r.body h))
      (or_cases (in_head M r.head) (anyb (λ e. not (holds m e M)) r.body) e)

  pub keeps_complete : (r : Rule) → Keeps m M r → keepsb m M r ≡ true
  keeps_complete r = ⊎_elim
      (λ h. or_left (in_head M r.head) (anyb (λ e. not (holds m e M)) r.body) (in_head_complete r.head h))
      (λ h. or_right (in_head M r.head) (anyb (λ e. not (holds m e M)) r.body)
      (any_anyb (λ e. not (holds m e M)) (λ e. holds m e M ≡ false) (λ x k. not_from_false (holds m x M) k) r.body h))

module _ (m : Meaning) (w : Way) (rules : List Rule) (M : ℕ) (M< : M < 2 ^ 64) where
  abbrev der : ℕ → ℕ → Bool
  der = derives m w rules M

  module _ (kept : AllByRecursion (Keeps m M) rules) where
    pub full_of : (ranks : List ℕ) → Bears m w rules M ranks → M ⊆ round (derives m w rules M) 64
    full_of ranks b =
        core.full M M< der (derives_mono m w rules M M<) (derives_inside m w rules M M< kept) ranks
        (λ d h. (b.ranked.inside d h).0)
        (λ d h. derives_complete m w rules M M< (below M ranks d) d (below_in M ranks d) (b.borne d h))

    pub bears_of : M ⊆ round (derives m w rules M) 64 → Bears m w rules M (round_ranks (derives m w rules M))
    bears_of full = record {
      ranked = core.rounds_ranked M M< der (derives_mono m w rules M M<) (derives_inside m w rules M M< kept) full;
      kept = kept;
      borne = λ b h. derives_sound m w rules M M< (below M (round_ranks der) b) b
          (core.rounds_founded M M< der (derives_mono m w rules M M<) (derives_inside m w rules M M< kept) full b h);
    }

  pub borne_full : Borne m w rules M → M ⊆ round (derives m w rules M) 64
  borne_full b = full_of b.1.kept b.0 b.1

  pub borne_bears : Borne m w rules M → Bears m w rules M (round_ranks (derives m w rules M))
  borne_bears b = bears_of b.1.kept (borne_full b)

  -- ---- the rounds are at most 64, and no bearing ranks give less

  pub depth_64 : Borne m w rules M → (d : ℕ) → rank (round_ranks (derives m w rules M)) d ≤ 64
  depth_64 b d = ⊎_elim
      (λ (l : d < 64). ⊎_elim
      (λ (h : d ∈ M). le_trans (le_of_eq (rank_round der d l))
      (core.round_of_le M M< der (derives_mono m w rules M M<) (derives_inside m w rules M M< b.1.kept) 64 d (borne_full b d h)))
      (λ (h : d ∉ M). le_trans (le_of_eq ((borne_bears b).ranked.outside d l h)) zero-le)
      (cases_Bool (has M d)))
      (λ (l : 64 ≤ d). let n = length_round der in
      let e : length (round_ranks der) ≤ d = omega arith in
      le_trans (le_of_eq (get_or-eq_default (round_ranks der) 0 e)) zero-le)
      (cases_lt d 64)

  pub rounds_least : Borne m w rules M → (others : List ℕ) → Bears m w rules M others → (d : ℕ) → rank (round_ranks (derives m w rules M)) d ≤ rank others d
  rounds_least b others o d = ⊎_elim
      (λ (l : d < 64). ⊎_elim
      (λ (h : d ∈ M). le_trans (le_of_eq (rank_round der d l))
      (core.round_of_le M M< der (derives_mono m w rules M M<) (derives_inside m w rules M M< b.1.kept) (rank others d) d
      (core.by_rank M M< der (derives_mono m w rules M M<) (derives_inside m w rules M M< b.1.kept) others
      (λ d h. (o.ranked.inside d h).0)
      (λ d h. derives_complete m w rules M M< (below M others d) d (below_in M others d) (o.borne d h))
      (rank others d) d h (le_refl (rank others d)))))
      (λ (h : d ∉ M). le_trans (le_of_eq ((borne_bears b).ranked.outside d l h)) zero-le)
      (cases_Bool (has M d)))
      (λ (l : 64 ≤ d). let n = length_round der in
      let e : length (round_ranks der) ≤ d = omega arith in
      le_trans (le_of_eq (get_or-eq_default (round_ranks der) 0 e)) zero-le)
      (cases_lt d 64)

  -- ---- a test

  pub borneb_sound : borneb m w rules M ≡ true → Borne m w rules M
  unfolding borneb
  borneb_sound e =
      let k = and_parts (allb (keepsb m M) rules) (eqb (M ∩ round der 64) M) e in (
        round_ranks der,
        bears_of (allb_all (keepsb m M) (Keeps m M) (keeps_sound m M) rules k.0)
            (and_sub_of M (round der 64) (eqb-true (M ∩ round der 64) M k.1)),
      )

  pub borneb_complete : Borne m w rules M → borneb m w rules M ≡ true
  unfolding borneb
  borneb_complete b =
      and_from (allb (keepsb m M) rules) (eqb (M ∩ round der 64) M)
      (all_allb (keepsb m M) (Keeps m M) (keeps_complete m M) rules b.1.kept)
      (eq-eqb (M ∩ round der 64) M (sub_and M (round der 64) (borne_full b)))

-- ---- by complement a borne set is minimal among those that keep the rules

module _ (m : Meaning) (rules : List Rule) (M N : ℕ) (ranks : List ℕ) (b : Bears m complement rules M ranks)
    (keeps : AllByRecursion (Keeps m N) rules) (N⊆M : N ⊆ M) where
  climbs : (n d : ℕ) → d ∈ M → rank ranks d < n → d ∈ N
  climbs zero d h l = absurd (not-suc-le-zero l)
  climbs (suc n) d h l =
      any_out (λ _. d ∈ N) (λ _ k. k) rules
      (any_all (Gives m complement (below M ranks d) M d) (Keeps m N) (λ _. d ∈ N)
      (λ r g k. head_kept m N d r g.0
      (all_to (λ e. Carried m complement e (below M ranks d) M) (λ e. holds m e N ≡ true)
      (λ e c. carried_span m (below M ranks d) N M
      (λ x i. let p = in_below M ranks d x i in climbs n x p.0 (le_trans p.1 (le_of_suc-le-suc l)))
      N⊆M e c)
      r.body g.1) k)
      rules (b.borne d h) keeps)

  pub no_smaller : N ≡ M
  no_smaller = sub_antisym N M N⊆M (λ d h. climbs (suc (rank ranks d)) d h (le_refl (suc (rank ranks d))))

pub minimal : Minimal
minimal m rules M N M< N< b keeps apart = ⊎_elim
    (λ (all : (d : ℕ) → d < 64 → d ∈ N → d ∈ M).
    absurd (apart (no_smaller m rules M N b.0 b.1 keeps (λ d h. all d (member_below 64 N d N< h) h))))
    (λ (x : (d : ℕ) × (d < 64) × (d ∈ N) × (d ∉ M)). (x.0, x.2, x.3))
    (outsider 64 N M)

pub complement_reduct : ComplementReduct
complement_reduct m rules M ranks b = record {
  ranked = b.ranked;
  kept = b.kept;
  borne = λ d h. any_to (Gives m complement (below M ranks d) M d) (Gives m reduct (below M ranks d) M d)
      (λ r g. (
        g.0,
        all_to (λ e. Carried m complement e (below M ranks d) M) (λ e. Carried m reduct e (below M ranks d) M)
            (λ e c. carried_weaker m (below M ranks d) M (below_in M ranks d) e c) r.body g.1,
      ))
      rules (b.borne d h);
}

pub given : Given
given m w rules M b d h = any_to (Gives m w (below M b.0 d) M d) (λ r. CanGive d M r.head) (λ r g. g.0) rules (b.1.borne d h)
