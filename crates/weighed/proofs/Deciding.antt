-- What the least and the greatest total decide, and how one decision splits the sets of a span.
use Rattle.std.proofs.Common.{◌≡◌, ℕ, ◌+◌, ◌<◌, ◌≤◌, Bool, true, false, cond, not, ◌&&◌, ◌||◌, ◌⊎◌, List, [], ◌∷◌, length, Decides, sym, refl, ap, ◌∙◌, subst, inl, inr, ⊎_elim, arith}
use Rattle.std.proofs.ByRecursion.{All-weaker}
use Rattle.std.proofs.lemmas.Bool.Decides.{Decides-at}
use Rattle.std.proofs.lemmas.Bool.{both_ways, cases_Bool, and_parts, and_from, and_left, and_right, or_cases, or_parts, not-true, not-false, cond_both, false_from_ne_true}
use Rattle.measures.specs.Scales.{Scale, Laws, laid, Allowed, Total, Compared}
use Rattle.sets.specs.Sets.{has, ◌∈◌, ◌∉◌, ◌⊆◌, ◌∪◌, ◌∖◌, single, Between}
use Rattle.sets.proofs.Ascending.{Sorted}
use Rattle.sets.proofs.Members.{sub_refl}
use Rattle.weighed.specs.Totals.{chosen, within, Hits, Misses}
use Rattle.weighed.specs.Extremes.{toward, extreme}
use Rattle.weighed.specs.declared.end.End.{End}
use Rattle.weighed.specs.declared.end.End.TheVariants.{Least, Greatest}
use Rattle.weighed.proofs.Carrying.{extreme_over}
use Rattle.weighed.proofs.Reach.{chosen_same, has_with, has_without, with_in, without_out, between_with, between_without, total_wider, total_lay, compared, directed, reflexive, reach, attained}

module _ {W T : Type 0} (s : Scale W T) where
  -- ---- totals of what is chosen

  total_laid : (n : ℕ) (t : T) (xs : List W) → Total s n t → Allowed s xs → Total s (n + length xs) (laid s t xs)
  total_laid n t [] p a = total_wider s n (n + 0) t (omega arith) p
  total_laid n t (x ∷ xs) p a =
      total_wider s (n + 1 + length xs) (n + length (x ∷ xs)) (laid s (s.lay t x) xs) (omega arith)
      (total_laid (n + 1) (s.lay t x) xs (total_lay s n t x p a.0) a.1)

  chosen_allowed : (ds : List ℕ) (ws : List W) (f : ℕ) → Allowed s ws → Allowed s (chosen ds ws f)
  chosen_allowed [] ws f a = tt
  chosen_allowed (d ∷ ds) [] f a = tt
  chosen_allowed (d ∷ ds) (w ∷ ws) f a =
      let rest = chosen_allowed ds ws f a.1 in cond_both (has f d) (w ∷ chosen ds ws f) (chosen ds ws f) (Allowed s) (λ _. (a.0, rest)) (λ _. rest)

  chosen_length : (ds : List ℕ) (ws : List W) (f : ℕ) → length (chosen ds ws f) ≤ length ws
  chosen_length [] ws f = omega arith
  chosen_length (d ∷ ds) [] f = omega arith
  chosen_length (d ∷ ds) (w ∷ ws) f =
      let rest = chosen_length ds ws f in
      cond_both (has f d) (w ∷ chosen ds ws f) (chosen ds ws f) (λ xs. length xs ≤ length (w ∷ ws)) (λ _. omega arith) (λ _. omega arith)

  compared_chosen : (n : ℕ) (t : T) (ds : List ℕ) (ws : List W) (f : ℕ) → Total s n t → n + length ws ≤ 12 → Allowed s ws → Compared s (laid s t (chosen ds ws f))
  compared_chosen n t ds ws f p h a =
      compared s (n + length (chosen ds ws f)) (laid s t (chosen ds ws f)) (omega (arith, chosen_length ds ws f))
      (total_laid n t (chosen ds ws f) p (chosen_allowed ds ws f a))

  -- a bound that the measure allows is compared
  pub bound_compared : (b : W) → s.fair b ≡ true → Compared s (s.bound b)
  bound_compared b h = inr (b, h, refl)

  -- where no decision or no weight is left, nothing is chosen
  chosen_over : (ds : List ℕ) (ws : List W) (f : ℕ) → (ds ≡ []) ⊎ (length ws ≡ 0) → chosen ds ws f ≡ []
  chosen_over [] ws f h = refl
  chosen_over (d ∷ ds) [] f h = refl
  chosen_over (d ∷ ds) (w ∷ ws) f h = absurd (⊎_elim (λ e. (cc)) (λ e. omega arith) h)

  module _ (laws : Laws s) (lo up : ℕ) (nested : lo ⊆ up) (low high : T) (cl : Compared s low) (ch : Compared s high)
      (ds : List ℕ) (ws : List W) (sorted : Sorted ds) (n : ℕ) (t : T) (p : Total s n t) (fits : n + length ws ≤ 12) (a : Allowed s ws) where
    -- the least and the greatest total
    abbrev ends : End → T
    ends e = extreme s (toward e s) lo up ds ws t

    ended : (e : End) → (f : ℕ) × Between lo up f × (ends e ≡ laid s t (chosen ds ws f))
    ended e = attained s (toward e s) (directed s e laws) lo up nested ds ws t sorted

    abbrev sum : ℕ → T
    sum f = laid s t (chosen ds ws f)

    csum : (f : ℕ) → Compared s (sum f)
    csum f = compared_chosen n t ds ws f p fits a

    cend : (e : End) → Compared s (ends e)
    cend e = subst (Compared s) (sym (ended e).2) (csum (ended e).0)

    toward_all : (e : End) (f : ℕ) → Between lo up f → toward e s (ends e) (sum f) ≡ true
    toward_all e f b =
        reach s (toward e s) (directed s e laws) lo up n ds ws t t f b p p fits a
        (reflexive s (toward e s) (directed s e laws) t (compared s n t (omega arith) p))

    -- every set hits exactly where the least is not below the lower bound and the greatest not above the upper one
    pub hits_by_ends : (r : Bool) → r ≡ (s.le low (ends Least) && s.le (ends Greatest) high) → Decides r (Hits s lo up low high ds ws t)
    hits_by_ends r is = Decides-at r (s.le low (ends Least) && s.le (ends Greatest) high) is (
      (λ e f b.
          let q = and_parts (s.le low (ends Least)) (s.le (ends Greatest) high) e in
          and_from (s.le low (sum f)) (s.le (sum f) high)
          (laws.transitive low (ends Least) (sum f) cl (cend Least) (csum f) q.0 (toward_all Least f b))
          (laws.transitive (sum f) (ends Greatest) high (csum f) (cend Greatest) ch (toward_all Greatest f b) q.1)),
      (λ h.
          let least = ended Least in let greatest = ended Greatest in
          and_from (s.le low (ends Least)) (s.le (ends Greatest) high)
          (ap (s.le low) least.2 ∙ (and_parts (s.le low (sum least.0)) (s.le (sum least.0) high) (h least.0 least.1)).0)
          (ap (λ (u : T). s.le u high) greatest.2 ∙ (and_parts (s.le low (sum greatest.0)) (s.le (sum greatest.0) high) (h greatest.0 greatest.1)).1)),
    )

    -- no set hits where the least is above the upper bound, or the greatest below the lower one
    pub misses_apart : (r : Bool) → r ≡ (not (s.le (ends Least) high) || not (s.le low (ends Greatest))) → r ≡ true → Misses s lo up low high ds ws t
    misses_apart r e h f b =
        ⊎_elim
        (λ m. and_right (s.le low (sum f)) (s.le (sum f) high)
        (false_from_ne_true (s.le (sum f) high) (λ k. both_ways (s.le (ends Least) high) (not-true (s.le (ends Least) high) m)
        (laws.transitive (ends Least) (sum f) high (cend Least) (csum f) ch (toward_all Least f b) k))))
        (λ m. and_left (s.le low (sum f)) (s.le (sum f) high)
        (false_from_ne_true (s.le low (sum f)) (λ k. both_ways (s.le low (ends Greatest)) (not-true (s.le low (ends Greatest)) m)
        (laws.transitive low (sum f) (ends Greatest) cl (csum f) (cend Greatest) k (toward_all Greatest f b)))))
        (or_cases (not (s.le (ends Least) high)) (not (s.le low (ends Greatest))) (sym e ∙ h))

  module _ (lo up : ℕ) (nested : lo ⊆ up) (low high : T) where
    -- where nothing is left to lay on, t itself hits unless it is apart
    pub misses_over : (ds : List ℕ) (ws : List W) (t : T) (r : Bool) → (ds ≡ []) ⊎ (length ws ≡ 0)
        → r ≡ (not (s.le (extreme s (toward Least s) lo up ds ws t) high) || not (s.le low (extreme s (toward Greatest s) lo up ds ws t))) → r ≡ false
        → Decides false (Misses s lo up low high ds ws t)
    misses_over ds ws t r over e h =
        let q = or_parts (not (s.le (extreme s (toward Least s) lo up ds ws t) high)) (not (s.le low (extreme s (toward Greatest s) lo up ds ws t))) (sym e ∙ h) in
        let same : (x : End) → extreme s (toward x s) lo up ds ws t ≡ t = λ x. extreme_over s (toward x s) lo up ds ws t over in
        let above : s.le t high ≡ true = ap (λ (u : T). s.le u high) (sym (same Least)) ∙ not-false (s.le (extreme s (toward Least s) lo up ds ws t) high) q.0 in
        let below : s.le low t ≡ true = ap (s.le low) (sym (same Greatest)) ∙ not-false (s.le low (extreme s (toward Greatest s) lo up ds ws t)) q.1 in (
          (λ x. absurd (both_ways false refl x)),
          (λ m. absurd (both_ways (within s low high (laid s t (chosen ds ws lo))) (m lo (sub_refl lo, nested))
              (ap (λ (xs : List W). within s low high (laid s t xs)) (chosen_over ds ws lo over) ∙ and_from (s.le low t) (s.le t high) below above))),
        )

    -- one decision more: with the weight left off, and with it laid on
    module _ (d : ℕ) (ds : List ℕ) (w : W) (ws : List W) (t : T) (sorted : Sorted (d ∷ ds)) where
      apart : (f g : ℕ) → ((e : ℕ) → (e ≡ d → ⊥) → has g e ≡ has f e) → chosen ds ws g ≡ chosen ds ws f
      apart f g h = chosen_same ds ws g f (All-weaker (λ e. d < e) (λ e. has g e ≡ has f e) (λ e l. h e (λ q. omega arith)) ds sorted.0)

      with_d : (f : ℕ) → d ∈ f → laid s t (chosen (d ∷ ds) (w ∷ ws) f) ≡ laid s (s.lay t w) (chosen ds ws f)
      with_d f m = ap (λ (b : Bool). laid s t (cond b (w ∷ chosen ds ws f) (chosen ds ws f))) m

      without_d : (f : ℕ) → d ∉ f → laid s t (chosen (d ∷ ds) (w ∷ ws) f) ≡ laid s t (chosen ds ws f)
      without_d f m = ap (λ (b : Bool). laid s t (cond b (w ∷ chosen ds ws f) (chosen ds ws f))) m

      abbrev Left : Type 0
      Left = (d ∈ lo) ⊎ Misses s lo up low high ds ws t

      abbrev Laid : Type 0
      Laid = (d ∉ up) ⊎ Misses s lo up low high ds ws (s.lay t w)

      misses_left : Misses s lo up low high (d ∷ ds) (w ∷ ws) t → Left
      misses_left m = ⊎_elim inl
          (λ (o : d ∉ lo). inr (λ f b.
          let g = f ∖ single d in
          ap (λ (xs : List W). within s low high (laid s t xs)) (sym (apart f g (has_without f d)))
          ∙ ap (within s low high) (sym (without_d g (without_out f d))) ∙ m g (between_without lo up f d b o)))
          (cases_Bool (has lo d))

      misses_laid : Misses s lo up low high (d ∷ ds) (w ∷ ws) t → Laid
      misses_laid m = ⊎_elim
          (λ (i : d ∈ up). inr (λ f b.
          let g = f ∪ single d in
          ap (λ (xs : List W). within s low high (laid s (s.lay t w) xs)) (sym (apart f g (has_with f d)))
          ∙ ap (within s low high) (sym (with_d g (with_in f d))) ∙ m g (between_with lo up f d b i)))
          inl (cases_Bool (has up d))

      misses_both : Left → Laid → Misses s lo up low high (d ∷ ds) (w ∷ ws) t
      misses_both p q f b = ⊎_elim
          (λ (m : d ∈ f). ap (within s low high) (with_d f m) ∙ ⊎_elim (λ (o : d ∉ up). absurd (both_ways (has up d) o (b.1 d m))) (λ k. k f b) q)
          (λ (m : d ∉ f). ap (within s low high) (without_d f m) ∙ ⊎_elim (λ (i : d ∈ lo). absurd (both_ways (has f d) m (b.0 d i))) (λ k. k f b) p)
          (cases_Bool (has f d))

      pub decided_both : (a b : Bool) → a ≡ true → Decides a Left → Decides b Laid → Decides b (Misses s lo up low high (d ∷ ds) (w ∷ ws) t)
      decided_both a b y p q = ((λ e. misses_both (p.0 y) (q.0 e)), (λ m. q.1 (misses_laid m)))

      pub decided_left : (a : Bool) → a ≡ false → Decides a Left → Decides a (Misses s lo up low high (d ∷ ds) (w ∷ ws) t)
      decided_left a n p = ((λ e. absurd (both_ways a n e)), (λ m. p.1 (misses_left m)))

-- the same question, its parts given otherwise
pub moved : {W T : Type 0} (s : Scale W T) (lo up : ℕ) (low high : T) {ds ds' : List ℕ} {ws ws' : List W} {t t' : T} (r : Bool)
    → ds' ≡ ds → ws' ≡ ws → t' ≡ t → Decides r (Misses s lo up low high ds' ws' t') → Decides r (Misses s lo up low high ds ws t)
moved {W} {T} s lo up low high r d e f =
    subst (λ (x : List ℕ × List W × T). Decides r (Misses s lo up low high x.0 x.1 x.2)) (λ i. (d i, e i, f i))

-- a test of one of two facts: where the first is known, and where it fails
pub first_holds : {P Q : Type 0} (a : Bool) → a ≡ true → P → Decides a (P ⊎ Q)
first_holds a e p = ((λ _. inl p), (λ _. e))

pub first_fails : {P Q : Type 0} (a r : Bool) → a ≡ r → (P → ⊥) → Decides r Q → Decides a (P ⊎ Q)
first_fails a r e n d = ((λ y. inr (d.0 (sym e ∙ y))), (λ h. e ∙ d.1 (⊎_elim (λ p. absurd (n p)) (λ q. q) h)))
