use Rattle.std.proofs.Common.{◌≡◌, ℕ, sym, ap, ◌∙◌, subst, inl, inr, ⊎_elim}
use Rattle.std.proofs.lemmas.Bool.{eqb-true, eq-eqb}
use Rattle.sets.specs.Sets.{◌∈◌, single}
use Rattle.sets.proofs.Members.{in_or, or_first, or_second, has_single}
use Rattle.answer_sets.specs.Rules.{decision}
use Rattle.rules.specs.Shapes.{head_of}
use Rattle.search.proofs.heads.with_head.Goals as goal

same : (d e : ℕ) → decision d ≡ decision e → d ≡ e
same d e p = cc

pub returns-in-Some : goal.returns-in-Some
returns-in-Some c d =
    let s = c.args.set in let k = c.in-Some.d.place in
    let is : head_of c.args.head ≡ decision k = ap head_of c.in-Some.is in (
      (λ i. ⊎_elim (λ (h : d ∈ s). inl h) (λ (h : d ∈ single k). inr (is ∙ ap decision (sym (eqb-true d k (sym (has_single k d) ∙ h)))))
          (in_or s (single k) d (subst (λ (x : ℕ). d ∈ x) c.with.ensures i))),
      (λ h. subst (λ (x : ℕ). d ∈ x) (sym c.with.ensures) (⊎_elim (λ i. or_first s (single k) d i)
          (λ e. or_second s (single k) d (has_single k d ∙ eq-eqb d k (same d k (sym e ∙ is)))) h)),
    )
