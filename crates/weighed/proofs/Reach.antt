-- The total that is carried toward an end is not further from it than the total of any set of the span, and is one of them: from the
-- laws of a measure alone.
use Rattle.std.proofs.Common.{◌≡◌, ℕ, ◌+◌, ◌<◌, ◌≤◌, Bool, true, false, cond, not, ◌&&◌, ◌||◌, List, [], ◌∷◌, ◌++◌, length, sym, refl, ap, ◌∙◌, subst, ap₂, inl, ⊎_elim, arith, length-append}
use Rattle.std.specs.List.{AllByRecursion}
use Rattle.std.proofs.ByRecursion.{All-push, All-weaker}
use Rattle.std.proofs.lemmas.Bool.{both_ways, cases_Bool, eq-eqb, ne_eqb, eqb-true, or_cases, or_right, and_parts, and_right, not_from_true, cond_both, false_from_ne_true}
use Rattle.measures.specs.Scales.{Scale, Laws, laid, Allowed, Total, Compared}
use Rattle.sets.specs.Sets.{has, ◌∈◌, ◌∉◌, ◌⊆◌, ◌∪◌, ◌∖◌, single, Between}
use Rattle.sets.proofs.Ascending.{Sorted}
use Rattle.sets.proofs.Members.{has_or, has_minus, has_single, or_first, sub_refl}
use Rattle.weighed.specs.Totals.{chosen}
use Rattle.weighed.specs.Extremes.{toward, nearer, settled, extreme}
use Rattle.weighed.specs.declared.end.End.{End}
use Rattle.weighed.specs.declared.end.End.TheVariants.{Least, Greatest}

-- ---- sets that differ in one decision

-- what a list of decisions chooses depends on these decisions alone
pub chosen_same : {W : Type 0} (ds : List ℕ) (ws : List W) (f g : ℕ) → AllByRecursion (λ d. has f d ≡ has g d) ds → chosen ds ws f ≡ chosen ds ws g
chosen_same [] ws f g a = refl
chosen_same (d ∷ ds) [] f g a = refl
chosen_same {W} (d ∷ ds) (w ∷ ws) f g a =
    ap₂ (λ (b : Bool) (xs : List W). cond b (w ∷ xs) xs) a.0 (chosen_same ds ws f g a.1)

pub has_with : (f d e : ℕ) → (e ≡ d → ⊥) → has (f ∪ single d) e ≡ has f e
has_with f d e ne =
    has_or f (single d) e ∙ ap (λ (b : Bool). has f e || b) (has_single d e ∙ ne_eqb e d ne) ∙ or_none (has f e)
  where
    or_none : (b : Bool) → (b || false) ≡ b
    or_none true = refl
    or_none false = refl

pub has_without : (f d e : ℕ) → (e ≡ d → ⊥) → has (f ∖ single d) e ≡ has f e
has_without f d e ne =
    has_minus f (single d) e ∙ ap (λ (b : Bool). has f e && not b) (has_single d e ∙ ne_eqb e d ne) ∙ and_all (has f e)
  where
    and_all : (b : Bool) → (b && true) ≡ b
    and_all true = refl
    and_all false = refl

pub with_in : (f d : ℕ) → d ∈ f ∪ single d
with_in f d = has_or f (single d) d ∙ or_right (has f d) (has (single d) d) (has_single d d ∙ eq-eqb d d refl)

pub without_out : (f d : ℕ) → d ∉ f ∖ single d
without_out f d = has_minus f (single d) d ∙ and_right (has f d) (not (has (single d) d)) (not_from_true (has (single d) d) (has_single d d ∙ eq-eqb d d refl))

-- a decision that the upper set has may join a set between, and one that the lower set lacks may leave it
pub between_with : (lo up f d : ℕ) → Between lo up f → d ∈ up → Between lo up (f ∪ single d)
between_with lo up f d b i = (
  (λ e m. or_first f (single d) e (b.0 e m)),
  (λ e m. ⊎_elim (λ (a : e ∈ f). b.1 e a) (λ (a : e ∈ single d). ap (has up) (eqb-true e d (sym (has_single d e) ∙ a)) ∙ i)
      (or_cases (has f e) (has (single d) e) (sym (has_or f (single d) e) ∙ m))),
)

pub between_without : (lo up f d : ℕ) → Between lo up f → d ∉ lo → Between lo up (f ∖ single d)
between_without lo up f d b o = (
  (λ e m. has_without f d e (λ q. both_ways (has lo e) (ap (has lo) q ∙ o) m) ∙ b.0 e m),
  (λ e m. b.1 e (and_parts (has f e) (not (has (single d) e)) (sym (has_minus f (single d) e) ∙ m)).0),
)

-- ---- totals of few weights

module _ {W T : Type 0} (s : Scale W T) where
  laid_push : (t : T) (ws : List W) (w : W) → laid s t (ws ++ w ∷ []) ≡ s.lay (laid s t ws) w
  laid_push t [] w = refl
  laid_push t (v ∷ ws) w = laid_push (s.lay t v) ws w

  pub total_none : Total s 0 s.nothing
  total_none = ([], omega arith, tt, refl)

  pub total_wider : (m n : ℕ) (t : T) → m ≤ n → Total s m t → Total s n t
  total_wider m n t h p = (p.0, let l = p.1 in omega arith, p.2, p.3)

  pub total_lay : (n : ℕ) (t : T) (w : W) → Total s n t → s.ok w ≡ true → Total s (n + 1) (s.lay t w)
  total_lay n t w p o = (
    p.0 ++ w ∷ [],
    (let l = p.1 in omega (arith, length-append p.0 (w ∷ []))),
    All-push (λ v. s.ok v ≡ true) p.0 w p.2 o,
    ap (λ (u : T). s.lay u w) p.3 ∙ sym (laid_push s.nothing p.0 w),
  )

  pub compared : (n : ℕ) (t : T) → n ≤ 12 → Total s n t → Compared s t
  compared n t h p = inl (total_wider n 12 t h p)

  -- the laws of an order, in the direction of an end
  pub record Directed (le : T → T → Bool) : Type 0 where
    pub either : (t u : T) → Compared s t → Compared s u → le t u ≡ false → le u t ≡ true
    pub transitive : (t u v : T) → Compared s t → Compared s u → Compared s v → le t u ≡ true → le u v ≡ true → le t v ≡ true
    pub monotone : (t u : T) (w : W) → Total s 11 t → Total s 11 u → s.ok w ≡ true → le t u ≡ true → le (s.lay t w) (s.lay u w) ≡ true

  pub directed : (e : End) → Laws s → Directed (toward e s)
  directed Least l = record { either = l.either; transitive = l.transitive; monotone = l.monotone }
  directed Greatest l = record {
    either = λ t u p q h. l.either u t q p h;
    transitive = λ t u v p q r h k. l.transitive v u t r q p k h;
    monotone = λ t u w p q o h. l.monotone u t w q p o h;
  }

  module _ (le : T → T → Bool) (o : Directed le) where
    pub reflexive : (t : T) → Compared s t → le t t ≡ true
    reflexive t c = ⊎_elim (λ e. e) (λ e. o.either t t c c e) (cases_Bool (le t t))

    nearer_first : (t u : T) → Compared s t → Compared s u → le (nearer le t u) t ≡ true
    nearer_first t u p q = cond_both (le t u) t u (λ v. le v t ≡ true) (λ _. reflexive t p) (o.either t u p q)

    nearer_second : (t u : T) → Compared s t → Compared s u → le (nearer le t u) u ≡ true
    nearer_second t u p q = cond_both (le t u) t u (λ v. le v u ≡ true) (λ e. e) (λ _. reflexive u q)

    total_nearer : (n : ℕ) (t u : T) → Total s n t → Total s n u → Total s n (nearer le t u)
    total_nearer n t u p q = cond_both (le t u) t u (Total s n) (λ _. p) (λ _. q)

    module _ (lo up : ℕ) where
      total_settled : (n d : ℕ) (t : T) (w : W) → Total s n t → s.ok w ≡ true → Total s (n + 1) (settled s le lo up d t w)
      total_settled n d t w p a =
          let more = total_lay n t w p a in
          let same = total_wider n (n + 1) t (omega arith) p in
          cond_both (has lo d) (s.lay t w) (cond (has up d) (nearer le t (s.lay t w)) t) (Total s (n + 1)) (λ _. more)
          (λ _. cond_both (has up d) (nearer le t (s.lay t w)) t (Total s (n + 1)) (λ _. total_nearer (n + 1) t (s.lay t w) same more) (λ _. same))

      -- what f lays on at d
      abbrev step : ℕ → ℕ → T → W → T
      step f d u w = cond (has f d) (s.lay u w) u

      total_step : (n f d : ℕ) (u : T) (w : W) → Total s n u → s.ok w ≡ true → Total s (n + 1) (step f d u w)
      total_step n f d u w p a =
          cond_both (has f d) (s.lay u w) u (Total s (n + 1)) (λ _. total_lay n u w p a) (λ _. total_wider n (n + 1) u (omega arith) p)

      -- one decision keeps the settled total toward the end
      settled_toward : (n f d : ℕ) (t u : T) (w : W) → Between lo up f → Total s n t → Total s n u → n + 1 ≤ 12 → s.ok w ≡ true → le t u ≡ true
          → le (settled s le lo up d t w) (step f d u w) ≡ true
      settled_toward n f d t u w b p q h a l = pick (has lo d) (has f d) (has up d) (b.0 d) (b.1 d)
        where
          ct : Compared s t
          ct = compared n t (omega arith) p

          cu : Compared s u
          cu = compared n u (omega arith) q

          cm : Compared s (s.lay t w)
          cm = compared (n + 1) (s.lay t w) h (total_lay n t w p a)

          cv : Compared s (s.lay u w)
          cv = compared (n + 1) (s.lay u w) h (total_lay n u w q a)

          cn : Compared s (nearer le t (s.lay t w))
          cn = compared (n + 1) (nearer le t (s.lay t w)) h (total_nearer (n + 1) t (s.lay t w) (total_wider n (n + 1) t (omega arith) p) (total_lay n t w p a))

          both : le (s.lay t w) (s.lay u w) ≡ true
          both = o.monotone t u w (total_wider n 11 t (omega arith) p) (total_wider n 11 u (omega arith) q) a l

          pick : (x y z : Bool) → (x ≡ true → y ≡ true) → (y ≡ true → z ≡ true)
              → le (cond x (s.lay t w) (cond z (nearer le t (s.lay t w)) t)) (cond y (s.lay u w) u) ≡ true
          pick true true z f g = both
          pick true false z f g = absurd (both_ways false refl (f refl))
          pick false true true f g = o.transitive (nearer le t (s.lay t w)) (s.lay t w) (s.lay u w) cn cm cv (nearer_second t (s.lay t w) ct cm) both
          pick false false true f g = o.transitive (nearer le t (s.lay t w)) t u cn ct cu (nearer_first t (s.lay t w) ct cm) l
          pick false true false f g = absurd (both_ways false refl (g refl))
          pick false false false f g = l

      step_laid : (f d : ℕ) (u : T) (w : W) (ds : List ℕ) (ws : List W) → laid s (step f d u w) (chosen ds ws f) ≡ laid s u (chosen (d ∷ ds) (w ∷ ws) f)
      step_laid f d u w ds ws = pick (has f d)
        where
          pick : (b : Bool) → laid s (cond b (s.lay u w) u) (chosen ds ws f) ≡ laid s u (cond b (w ∷ chosen ds ws f) (chosen ds ws f))
          pick true = refl
          pick false = refl

      -- not further from the end than any set of the span
      pub reach : (n : ℕ) (ds : List ℕ) (ws : List W) (t u : T) (f : ℕ) → Between lo up f → Total s n t → Total s n u → n + length ws ≤ 12 → Allowed s ws
          → le t u ≡ true → le (extreme s le lo up ds ws t) (laid s u (chosen ds ws f)) ≡ true
      reach n [] ws t u f b p q h a l = l
      reach n (d ∷ ds) [] t u f b p q h a l = l
      reach n (d ∷ ds) (w ∷ ws) t u f b p q h a l =
          subst (λ (v : T). le (extreme s le lo up ds ws (settled s le lo up d t w)) v ≡ true) (step_laid f d u w ds ws)
          (reach (n + 1) ds ws (settled s le lo up d t w) (step f d u w) f b (total_settled n d t w p a.0) (total_step n f d u w q a.0) (omega arith) a.1
          (settled_toward n f d t u w b p q (omega arith) a.0 l))

      -- and one of theirs
      pub attained : lo ⊆ up → (ds : List ℕ) (ws : List W) (t : T) → Sorted ds → (f : ℕ) × Between lo up f × (extreme s le lo up ds ws t ≡ laid s t (chosen ds ws f))
      attained nested [] ws t k = (lo, (sub_refl lo, nested), refl)
      attained nested (d ∷ ds) [] t k = (lo, (sub_refl lo, nested), refl)
      attained nested (d ∷ ds) (w ∷ ws) t k =
          let rest = attained nested ds ws (settled s le lo up d t w) k.1 in
          let f = rest.0 in
          pick (has lo d) (has up d) (le t (s.lay t w)) refl refl f rest.1 rest.2
        where
          apart : (f g : ℕ) → ((e : ℕ) → (e ≡ d → ⊥) → has g e ≡ has f e) → chosen ds ws f ≡ chosen ds ws g
          apart f g h = chosen_same ds ws f g (All-weaker (λ e. d < e) (λ e. has f e ≡ has g e) (λ e l. sym (h e (λ q. omega arith))) ds k.0)

          taken : (f : ℕ) → d ∈ f → laid s (s.lay t w) (chosen ds ws f) ≡ laid s t (chosen (d ∷ ds) (w ∷ ws) f)
          taken f m = subst (λ (b : Bool). laid s (s.lay t w) (chosen ds ws f) ≡ laid s t (cond b (w ∷ chosen ds ws f) (chosen ds ws f))) (sym m) refl

          left : (f : ℕ) → d ∉ f → laid s t (chosen ds ws f) ≡ laid s t (chosen (d ∷ ds) (w ∷ ws) f)
          left f m = subst (λ (b : Bool). laid s t (chosen ds ws f) ≡ laid s t (cond b (w ∷ chosen ds ws f) (chosen ds ws f))) (sym m) refl

          pick : (x z n : Bool) → has lo d ≡ x → has up d ≡ z → (f : ℕ) → Between lo up f
              → extreme s le lo up ds ws (cond x (s.lay t w) (cond z (cond n t (s.lay t w)) t)) ≡ laid s (cond x (s.lay t w) (cond z (cond n t (s.lay t w)) t)) (chosen ds ws f)
              → (g : ℕ) × Between lo up g × (extreme s le lo up ds ws (cond x (s.lay t w) (cond z (cond n t (s.lay t w)) t)) ≡ laid s t (chosen (d ∷ ds) (w ∷ ws) g))
          pick true z n i j f b e = (f, b, e ∙ taken f (b.0 d i))
          pick false true true i j f b e = (
            f ∖ single d,
            between_without lo up f d b i,
            e ∙ ap (laid s t) (apart f (f ∖ single d) (has_without f d)) ∙ left (f ∖ single d) (without_out f d),
          )
          pick false true false i j f b e = (
            f ∪ single d,
            between_with lo up f d b j,
            e ∙ ap (laid s (s.lay t w)) (apart f (f ∪ single d) (has_with f d)) ∙ taken (f ∪ single d) (with_in f d),
          )
          pick false false n i j f b e = (f, b, e ∙ left f (false_from_ne_true (has f d) (λ m. both_ways (has up d) j (b.1 d m))))
