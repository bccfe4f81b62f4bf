-- The two ways, where the conditions under a "not" are monotone.
use Rattle.std.proofs.Common.{◌≡◌, ℕ, Bool, true, false, refl, ⊎_elim}
use Rattle.std.specs.List.{AllByRecursion}
use Rattle.std.proofs.lemmas.Bool.{cases_Bool, both_ways}
use Rattle.sets.specs.Sets.{◌∩◌}
use Rattle.banks.specs.Meaning.{Meaning}
use Rattle.answer_sets.specs.Rules.{reduct, complement, meets, CarriedBy, Carried, Gives, below, Monotone}
use Rattle.answer_sets.specs.Theorems.{WaysAgree}
use Rattle.sets.proofs.Members.{in_and}
use Rattle.answer_sets.proofs.Each.{all_zip, any_all}
use Rattle.answer_sets.proofs.Bearing.{complement_reduct}

-- ---- monotone conditions

module _ (m : Meaning) (L M : ℕ) where
  stronger : (k : ℕ) (neg : Bool) → (neg ≡ true → Monotone m k) → CarriedBy m reduct k neg L M → CarriedBy m complement k neg L M
  stronger k false f c = c
  stronger k true f c = λ F q. ⊎_elim
      (λ (e : m.family k F ≡ true). absurd (both_ways (meets m k M) c (f refl F (M ∩ m.domain k) q.1 (λ d h. (in_and M (m.domain k) d h).1) e)))
      (λ (e : m.family k F ≡ false). e)
      (cases_Bool (m.family k F))

pub ways_agree : WaysAgree
ways_agree m rules M ranks mono = (
  complement_reduct m rules M ranks,
  λ b. record {
    ranked = b.ranked;
    kept = b.kept;
    borne = λ d h. any_all (Gives m reduct (below M ranks d) M d) (λ r. AllByRecursion (λ e. e.negated ≡ true → Monotone m e.condition) r.body) (Gives m complement (below M ranks d) M d)
        (λ r g f. (
          g.0,
          all_zip (λ e. Carried m reduct e (below M ranks d) M) (λ e. e.negated ≡ true → Monotone m e.condition) (λ e. Carried m complement e (below M ranks d) M)
              (λ e c k. stronger m (below M ranks d) M e.condition e.negated k c) r.body g.1 f,
        ))
        rules (b.borne d h) mono;
  },
)
