use Rattle.std.proofs.Common.{◌≡◌, ℕ, List, ◌∷◌, true, sym, ap, subst, ◌∙◌}
use Rattle.std.proofs.lemmas.Bool.{both_ways, eq-eqb}
use Rattle.sets.specs.Lists.{member}
use Rattle.sets.specs.Sets.{◌⊆◌, Between}
use Rattle.sets.proofs.Ascending.{member_head, sorted_of}
use Rattle.sets.proofs.Members.{sub_refl, sub_antisym}
use Rattle.listed.proofs.Rows.{stands_first}
use Rattle.listed.proofs.row.Ascending.holds_all.Goals as goal

pub returns-then-lower-upper : goal.returns-then-lower-upper
returns-then-lower-upper c =
    let s = c.args.span in let n = c.near-near.ensures in
    let first = c.starts_with.ensures.0 c.if-starts_with.true in
    let same : s.lower ≡ s.upper = sym c.lower-then-starts_with.ensures ∙ c.if-lower-upper.true ∙ c.upper.ensures in (
      (λ e f b. sym (n.same f b) ∙ ap (member f) first.1
          ∙ subst (λ (y : ℕ). member y (c.lower.result ∷ first.0) ≡ true)
          (c.lower.ensures ∙ sub_antisym s.lower f b.0 (subst (λ (y : ℕ). f ⊆ y) (sym same) b.1)) (member_head c.lower.result first.0)),
      (λ a. eq-eqb _ _ c.if-lower-upper.true),
    )

pub returns-else-starts_with : goal.returns-else-starts_with
returns-else-starts_with c =
    let s = c.args.span in let n = c.near-near.ensures in (
      (λ e. absurd (both_ways c.starts_with.result c.if-starts_with.false e)),
      (λ a. let b : Between s.lower s.upper s.lower = (sub_refl s.lower, s.nested) in c.starts_with.ensures.1 (subst (λ (y : ℕ). (rest : List ℕ) × (c.near-near.result.sets.now ≡ y ∷ rest)) (sym c.lower.ensures)
          (stands_first s.lower c.near-near.result.sets.now (sorted_of c.near-near.result.sets.now c.near-near.result.ascends) n.from (n.same s.lower b ∙ a s.lower b)))),
    )

pub returns-else-lower-upper : goal.returns-else-lower-upper
returns-else-lower-upper c =
    let n = c.near-near.ensures in
    ((λ e f b. sym (n.same f b) ∙ c.lists.ensures.0 e f b), (λ a. c.lists.ensures.1 (λ f b. n.same f b ∙ a f b)))
