use Rattle.std.proofs.Common.{◌≡◌, ℕ, Some, sym, ap, ◌∙◌, subst}
use Rattle.std.specs.List.{slice_get}
use Rattle.measures.specs.Scales.{laid}
use Rattle.sets.specs.Sets.{◌⊆◌, ◌∩◌}
use Rattle.sets.specs.Walks.{decisions}
use Rattle.sets.proofs.Members.{and_second, sub_trans}
use Rattle.weighed.specs.Tables.{balanced}
use Rattle.weighed.specs.Totals.{chosen, within}
use Rattle.weighed.proofs.Picking.{pick_get, balanced_is}
use Rattle.weighed.proofs.bank.WeighedBank.weighing.Goals as goal

pub returns : goal.returns
returns g c =
    let s = g.M.Measure.scale in let b = c.args.self.now in let x = c.in_ok-c.c in let span = c.args.span in let is = c.new.ensures in
    let e : slice_get b.conditions.now c.args.k ≡ Some x = sym c.at.ensures ∙ c.in_ok-c.was in
    let d = pick_get b.conditions.now c.args.k (λ y. y.domain) 0 x e in (
      is.lower ∙ ap (λ (n : ℕ). span.lower ∩ n) (sym d),
      is.upper ∙ ap (λ (n : ℕ). span.upper ∩ n) (sym d),
      (λ f i.
          pick_get b.conditions.now c.args.k (λ y. balanced s y b.weights.now f) _ x e
          ∙ balanced_is s x b.weights.now f (sub_trans f (span.upper ∩ x.domain) x.domain (subst (λ (n : ℕ). f ⊆ n) is.upper i.1) (and_second span.upper x.domain))
          ∙ (λ j. within s (sym is.low j) (sym is.high j) (laid s s.nothing (chosen (decisions (sym is.domain j)) (sym is.row j) f)))),
    )
