-- A monotone operator on the subsets of M, given by a test: its rounds from the empty set, and ranks.
use Rattle.std.proofs.Common.{◌≡◌, ℕ, zero, suc, ◌^◌, ◌<◌, ◌≤◌, Bool, true, false, cond, ◌&&◌, ltb, ◌⊎◌, List, map, length, get_or, refl, ◌∙◌, subst, inl, inr, ⊎_elim, zero-le, le_trans, le_refl, le_of_suc-le-suc, not-suc-le-zero, eq-or-lt_of_le, arith}
use native.Mathlib.Decide.{le_ind}
use Rattle.std.specs.List.{range_with_len}
use Rattle.std.proofs.lemmas.List.FromFn.{length-map-range_with_len, get_or-map-range_with_len, fill_by_all}
use Rattle.std.proofs.lemmas.Bool.{cases_Bool, both_ways, lt-ltb, ltb-true, and_parts, and_from, cond-true, cond-false}
use Rattle.sets.specs.Sets.{has, ◌∈◌, ◌∉◌, ◌⊆◌, collect}
use Rattle.answer_sets.specs.Rules.{rank, below, Ranked}
use Rattle.answer_sets.specs.Tests.{round}
use Rattle.sets.proofs.Members.{has_none, sub_antisym, member_below}
use Rattle.sets.proofs.Collecting.{outsider, in_collect, to_collect, members, members_le, members_less}

-- the first i below n with p i, or n
unfoldable pub least : ℕ → (ℕ → Bool) → ℕ
least zero p = 0
least (suc n) p = cond (p 0) 0 (suc (least n (λ i. p (suc i))))

pub least_le : (n : ℕ) (p : ℕ → Bool) (i : ℕ) → p i ≡ true → least n p ≤ i
unfolding least
least_le zero p i h = zero-le
least_le (suc n) p zero h = rw cond-true zero-le
least_le (suc n) p (suc i) h = ⊎_elim
    (λ (e : p 0 ≡ true). rw cond-true zero-le)
    (λ (e : p 0 ≡ false). let l = least_le n (λ i. p (suc i)) i h in rw cond-false (omega arith))
    (cases_Bool (p 0))

pub least_passes : (n : ℕ) (p : ℕ → Bool) (i : ℕ) → i ≤ n → p i ≡ true → p (least n p) ≡ true
unfolding least
least_passes zero p zero l h = h
least_passes zero p (suc i) l h = absurd (not-suc-le-zero l)
least_passes (suc n) p zero l h = rw cond-true h
least_passes (suc n) p (suc i) l h = ⊎_elim
    (λ (e : p 0 ≡ true). rw cond-true e)
    (λ (e : p 0 ≡ false). rw cond-false (least_passes n (λ i. p (suc i)) i (le_of_suc-le-suc l) h))
    (cases_Bool (p 0))

-- the members of `below`
pub in_below : (M : ℕ) (ranks : List ℕ) (b d : ℕ) → d ∈ below M ranks b → (d ∈ M) × (rank ranks d < rank ranks b)
in_below M ranks b d h =
    let k = in_collect 64 (λ d. has M d && ltb (rank ranks d) (rank ranks b)) d h in
    let both = and_parts (has M d) (ltb (rank ranks d) (rank ranks b)) k.1 in
    (both.0, ltb-true (rank ranks d) (rank ranks b) both.1)

pub to_below : (M : ℕ) (ranks : List ℕ) (b d : ℕ) → M < 2 ^ 64 → d ∈ M → rank ranks d < rank ranks b → d ∈ below M ranks b
to_below M ranks b d M< h k =
    to_collect 64 (λ d. has M d && ltb (rank ranks d) (rank ranks b)) d (member_below 64 M d M< h)
    (and_from (has M d) (ltb (rank ranks d) (rank ranks b)) h (lt-ltb (rank ranks d) (rank ranks b) k))

-- ---- the rounds of a test

pub round_zero : (der : ℕ → ℕ → Bool) → round der 0 ≡ 0
unfolding round
round_zero der = refl

pub round_suc : (der : ℕ → ℕ → Bool) (i : ℕ) → round der (suc i) ≡ collect 64 (der (round der i))
unfolding round
round_suc der i = refl

-- the round of a decision, 0 where it is in none up to the 64th
pub round_of : (ℕ → ℕ → Bool) → ℕ → ℕ
round_of der d = cond (has (round der 64) d) (least 64 (λ i. has (round der i) d)) 0

pub round_ranks : (ℕ → ℕ → Bool) → List ℕ
round_ranks der = map (round_of der) (range_with_len 0 64)

pub rank_round : (der : ℕ → ℕ → Bool) (d : ℕ) → d < 64 → rank (round_ranks der) d ≡ round_of der d
unfolding round_ranks
rank_round der d l = get_or-map-range_with_len (round_of der) 0 64 d d 0 l (omega arith)

pub ranks_are : (der : ℕ → ℕ → Bool) (xs : List ℕ) → length xs ≡ 64 → ((k : ℕ) → k < 64 → get_or xs k 0 ≡ round_of der k) → xs ≡ round_ranks der
unfolding round_ranks
ranks_are der xs n h = fill_by_all (round_of der) xs 64 0 n h

pub round_of_none : (der : ℕ → ℕ → Bool) (d : ℕ) → d ∉ round der 64 → round_of der d ≡ 0
unfolding round_of
round_of_none der d e = rw cond-false

pub length_round : (der : ℕ → ℕ → Bool) → length (round_ranks der) ≡ 64
unfolding round_ranks
length_round der = length-map-range_with_len (round_of der) 0 64

module _ (M : ℕ) (M< : M < 2 ^ 64) (der : ℕ → ℕ → Bool)
    (mono : (S U b : ℕ) → S ⊆ U → U ⊆ M → der S b ≡ true → der U b ≡ true)
    (inside : (S b : ℕ) → S ⊆ M → der S b ≡ true → b ∈ M) where
  pub from_round : (i d : ℕ) → d ∈ round der (suc i) → der (round der i) d ≡ true
  unfolding round
  from_round i d h = (in_collect 64 (der (round der i)) d h).1

  pub round_in : (i : ℕ) → round der i ⊆ M
  round_in zero d h = absurd (both_ways (has 0 d) (has_none d) (subst (λ (x : ℕ). d ∈ x) (round_zero der) h))
  round_in (suc i) d h = inside (round der i) d (round_in i) (from_round i d h)

  pub to_round : (i d : ℕ) → der (round der i) d ≡ true → d ∈ round der (suc i)
  unfolding round
  to_round i d h = to_collect 64 (der (round der i)) d (member_below 64 M d M< (inside (round der i) d (round_in i) h)) h

  pub round_up : (i : ℕ) → round der i ⊆ round der (suc i)
  round_up zero d h = absurd (both_ways (has 0 d) (has_none d) (subst (λ (x : ℕ). d ∈ x) (round_zero der) h))
  round_up (suc i) d h =
      to_round (suc i) d (mono (round der i) (round der (suc i)) d (round_up i) (round_in (suc i)) (from_round i d h))

  pub round_mono : (i j : ℕ) → i ≤ j → round der i ⊆ round der j
  round_mono i j l = le_ind (λ (k : ℕ). round der i ⊆ round der k) (λ d h. h) (λ k _ ih d h. round_up k d (ih d h)) j l

  -- a round that adds nothing is followed by none that does, and there are at most 64 others
  grows : (i : ℕ) → (round der (suc i) ⊆ round der i) ⊎ (i < members 64 (round der (suc i)))
  grows zero = ⊎_elim
      (λ (all : (d : ℕ) → d < 64 → d ∈ round der 1 → d ∈ round der 0).
      inl (λ d h. all d (member_below 64 M d M< (round_in 1 d h)) h))
      (λ (w : (d : ℕ) × (d < 64) × (d ∈ round der 1) × (d ∉ round der 0)).
      inr (le_trans (omega arith) (members_less 64 (round der 0) (round der 1) w.0 (round_up 0) w.1 w.3 w.2)))
      (outsider 64 (round der 1) (round der 0))
  grows (suc i) = ⊎_elim
      (λ (stays : round der (suc i) ⊆ round der i).
      inl (λ d h. to_round i d (mono (round der (suc i)) (round der i) d stays (round_in i) (from_round (suc i) d h))))
      (λ (big : i < members 64 (round der (suc i))). ⊎_elim
      (λ (all : (d : ℕ) → d < 64 → d ∈ round der (suc (suc i)) → d ∈ round der (suc i)).
      inl (λ d h. all d (member_below 64 M d M< (round_in (suc (suc i)) d h)) h))
      (λ (w : (d : ℕ) × (d < 64) × (d ∈ round der (suc (suc i))) × (d ∉ round der (suc i))).
      inr (let more = members_less 64 (round der (suc i)) (round der (suc (suc i))) w.0 (round_up (suc i)) w.1 w.3 w.2 in omega arith))
      (outsider 64 (round der (suc (suc i))) (round der (suc i))))
      (grows i)

  last_round : round der 65 ⊆ round der 64
  last_round = ⊎_elim
      (λ (h : round der 65 ⊆ round der 64). h)
      (λ (h : 64 < members 64 (round der 65)). let k = members_le 64 (round der 65) in absurd (omega arith))
      (grows 64)

  pub all_rounds : (i : ℕ) → round der i ⊆ round der 64
  all_rounds zero d h = round_mono 0 64 zero-le d h
  all_rounds (suc i) d h =
      last_round d (to_round 64 d (mono (round der i) (round der 64) d (all_rounds i) (round_in 64) (from_round i d h)))

  pub round_eq : M ⊆ round der 64 → (j : ℕ) → 64 ≤ j → round der j ≡ M
  round_eq full j l = sub_antisym (round der j) M (round_in j) (λ d h. round_mono 64 j l d (full d h))

  -- ---- ranks by which every decision follows from lower ones

  module _ (ranks : List ℕ)
      (positive : (d : ℕ) → d ∈ M → 1 ≤ rank ranks d)
      (founded : (b : ℕ) → b ∈ M → der (below M ranks b) b ≡ true) where
    pub by_rank : (n b : ℕ) → b ∈ M → rank ranks b ≤ n → b ∈ round der n
    by_rank zero b h l = absurd (not-suc-le-zero (le_trans (positive b h) l))
    by_rank (suc n) b h l =
        to_round n b
        (mono (below M ranks b) (round der n) b
        (λ d k. let w = in_below M ranks b d k in by_rank n d w.0 (le_of_suc-le-suc (le_trans w.1 l)))
        (round_in n) (founded b h))

    pub full : M ⊆ round der 64
    full b h = all_rounds (rank ranks b) b (by_rank (rank ranks b) b h (le_refl (rank ranks b)))

  -- ---- the rounds as ranks

  pub round_of_le : (i d : ℕ) → d ∈ round der i → round_of der d ≤ i
  unfolding round_of
  round_of_le i d h =
      let e : d ∈ round der 64 = all_rounds i d h in
      rw cond-true (least_le 64 (λ i. has (round der i) d) i h)

  pub round_of_in : (d : ℕ) → d ∈ round der 64 → d ∈ round der (round_of der d)
  unfolding round_of
  round_of_in d e = rw cond-true (least_passes 64 (λ i. has (round der i) d) 64 (le_refl 64) e)

  pub round_of_first : (d v : ℕ) → d ∈ round der v → ((j : ℕ) → j < v → d ∉ round der j) → round_of der d ≡ v
  round_of_first d v h before = ⊎_elim
      (λ e. e)
      (λ (l : round_of der d < v). absurd (both_ways (has (round der (round_of der d)) d) (before (round_of der d) l) (round_of_in d (all_rounds v d h))))
      (eq-or-lt_of_le (round_of_le v d h))

  pub round_of_out : (d : ℕ) → d ∉ M → round_of der d ≡ 0
  unfolding round_of
  round_of_out d h = ⊎_elim
      (λ (e : d ∈ round der 64). absurd (both_ways (has M d) h (round_in 64 d e)))
      (λ (e : d ∉ round der 64). rw cond-false)
      (cases_Bool (has (round der 64) d))

  module _ (full : M ⊆ round der 64) where
    pub round_of_pos : (d : ℕ) → d ∈ M → 1 ≤ round_of der d
    round_of_pos d h = go (round_of der d) (round_of_in d (full d h))
      where
        go : (i : ℕ) → d ∈ round der i → 1 ≤ i
        go zero k = absurd (both_ways (has 0 d) (has_none d) (subst (λ (x : ℕ). d ∈ x) (round_zero der) k))
        go (suc i) k = omega arith

    pub rounds_ranked : Ranked M (round_ranks der)
    rounds_ranked = record {
      places = length_round der;
      outside = λ d l h. rank_round der d l ∙ round_of_out d h;
      inside = λ d h.
          let e = rank_round der d (member_below 64 M d M< h) in
          let p = round_of_pos d h in
          let q = round_of_le 64 d (full d h) in
          (omega arith, omega arith);
    }

    pub rounds_founded : (b : ℕ) → b ∈ M → der (below M (round_ranks der) b) b ≡ true
    rounds_founded b h = go (round_of der b) refl
      where
        go : (i : ℕ) → round_of der b ≡ i → der (below M (round_ranks der) b) b ≡ true
        go zero e = let p = round_of_pos b h in absurd (omega arith)
        go (suc i) e =
            mono (round der i) (below M (round_ranks der) b) b
            (λ d k.
            let dM = round_in i d k in
            let l = round_of_le i d k in
            let ed = rank_round der d (member_below 64 M d M< dM) in
            let eb = rank_round der b (member_below 64 M b M< h) in
            to_below M (round_ranks der) b d M< dM (omega arith))
            (λ d k. (in_below M (round_ranks der) b d k).0)
            (from_round i b (subst (λ (x : ℕ). b ∈ round der x) e (round_of_in b (full b h))))
