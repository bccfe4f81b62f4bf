use Rattle.std.proofs.Common.{◌≡◌, ◌+◌, ◌-◌, ◌<◌, ◌≤◌, ◌∷◌, Bool, ℕ, not, length, sym, refl, ap, ◌∙◌, subst, inl, inr, arith, rules}
use Rattle.std.proofs.Math.Logic.{∥∥₁_elim}
use Rattle.std.proofs.Props.{props}
use Rattle.std.proofs.lemmas.Bool.{both_ways}
use Rattle.measures.specs.Scales.{Allowed, Total}
use Rattle.sets.specs.Sets.{has, ◌∖◌, single, Lowest}
use Rattle.sets.specs.Walks.{decisions}
use Rattle.sets.proofs.Ascending.{Sorted}
use Rattle.sets.proofs.Listing.{lowest_first, decisions_none, sorted_decisions}
use Rattle.weighed.proofs.Reach.{total_wider, total_lay}
use Rattle.weighed.proofs.Deciding.{misses_apart, misses_over, decided_left, decided_both, moved, first_holds, first_fails}
use Rattle.weighed.proofs.weighing.Weighing.+misses_from.Goals as goal
use Rattle.weighed.proofs.weighing.Weighing.+misses_from.Goals.{then-contains, else-contains}

-- the decisions of a domain, by its lowest and the rest
first_rest : (s d r : ℕ) → d < 64 → Lowest d s → r ≡ s ∖ single d → decisions s ≡ d ∷ decisions r
first_rest s d r h l e = lowest_first s d h l ∙ ap (λ (x : ℕ). d ∷ decisions x) (sym e)

pub returns-then-is_apart : goal.returns-then-is_apart
returns-then-is_apart g t c =
    let s = g.M.Measure.scale in let q = c.args.self.now in let a = c.args in (
      (λ _. ∥∥₁_elim q.compared_low (Prim.hlevel props)
          (λ l. ∥∥₁_elim q.compared_high (Prim.hlevel props)
          (λ h. misses_apart s g.met.M.Measure.lawful q.span.lower q.span.upper q.span.nested q.low q.high l h
          (decisions a.domain) a.row.now (sorted_decisions 64 a.domain) _ a.t c.requires.started (omega (arith, c.requires.few)) c.requires.allowed
          c.is_apart.result c.is_apart.ensures c.if-is_apart.true))),
      (λ _. refl),
    )

pub returns-in_default : goal.returns-in_default
returns-in_default g t c =
    let s = g.M.Measure.scale in let q = c.args.self.now in
    misses_over s q.span.lower q.span.upper q.span.nested q.low q.high (decisions c.args.domain) c.args.row.now c.args.t c.is_apart.result
    (inl (decisions_none c.args.domain c.in_default.ensures)) c.is_apart.ensures c.if-is_apart.false

pub returns-in_default-split_first : goal.returns-in_default-split_first
returns-in_default-split_first g t c =
    let s = g.M.Measure.scale in let q = c.args.self.now in
    misses_over s q.span.lower q.span.upper q.span.nested q.low q.high (decisions c.args.domain) c.args.row.now c.args.t c.is_apart.result
    (inr (search rules)) c.is_apart.ensures c.if-is_apart.false

pub misses_from-requires-else-not-contains : goal.misses_from-requires-else-not-contains
misses_from-requires-else-not-contains g t c κs within =
    let s = g.M.Measure.scale in let row = c.args.row.now in
    let w = c.in-Some-split_first.w.now in let tail = c.in-Some-split_first.tail.now in
    let first = c.in-Some-split_first.ensures.cases in
    let n : length tail + 1 ≡ length row = first.1 in
    let l : length row ≤ 12 = c.requires.few in
    let a = subst (Allowed s) first.0 c.requires.allowed in (
      search rules,
      (
        within.0,
        (
          within.1,
          (
            omega arith,
            (
              a.1,
              subst (Total s (12 - length tail)) (sym c.with.ensures)
                  (total_wider s (12 - length row + 1) (12 - length tail) (s.lay c.args.t w) (omega arith) (total_lay s (12 - length row) c.args.t w c.requires.started a.0)),
            ),
          ),
        ),
      ),
    )

pub returns-else-misses_from : goal.returns-else-misses_from
returns-else-misses_from g t c =
    let s = g.M.Measure.scale in let q = c.args.self.now in let domain = c.args.domain in
    let d = c.in-Some.d in let rest = c.without-rest.result in
    let split = first_rest domain d.place rest d.small c.in-Some.ensures c.without-rest.ensures in
    let first = c.in-Some-split_first.ensures.cases.0 in
    let v : Bool = c.if-contains.value in
    moved s q.span.lower q.span.upper q.low q.high v (sym split) (sym first) refl
    (decided_left s q.span.lower q.span.upper q.span.nested q.low q.high d.place (decisions rest) c.in-Some-split_first.w.now c.in-Some-split_first.tail.now c.args.t
    (subst Sorted split (sorted_decisions 64 domain)) v c.if-misses_from.false
    (elim c.if-contains.branch [
      | then-contains w ↦ first_holds v (w.value-is ∙ w.if-contains.true) (ap (λ x. has x d.place) (sym c.lower.ensures) ∙ sym c.contains.ensures ∙ w.if-contains.true)
      | else-contains w ↦ first_fails v w.misses_from.result w.value-is
          (λ i. both_ways (has q.span.lower d.place) (ap (λ x. has x d.place) (sym c.lower.ensures) ∙ sym c.contains.ensures ∙ w.if-contains.false) i)
          w.misses_from.ensures
    ]))

pub returns-then-not-contains : goal.returns-then-not-contains
returns-then-not-contains g t c =
    let s = g.M.Measure.scale in let q = c.args.self.now in let domain = c.args.domain in
    let d = c.in-Some.d in let rest = c.without-rest.result in
    let split = first_rest domain d.place rest d.small c.in-Some.ensures c.without-rest.ensures in
    let first = c.in-Some-split_first.ensures.cases.0 in
    let v : Bool = c.if-contains.value in let r : Bool = not c.contains-then-misses_from.result in
    moved s q.span.lower q.span.upper q.low q.high r (sym split) (sym first) refl
    (decided_both s q.span.lower q.span.upper q.span.nested q.low q.high d.place (decisions rest) c.in-Some-split_first.w.now c.in-Some-split_first.tail.now c.args.t
    (subst Sorted split (sorted_decisions 64 domain)) v r c.if-misses_from.true
    (elim c.if-contains.branch [
      | then-contains w ↦ first_holds v (w.value-is ∙ w.if-contains.true) (ap (λ x. has x d.place) (sym c.lower.ensures) ∙ sym c.contains.ensures ∙ w.if-contains.true)
      | else-contains w ↦ first_fails v w.misses_from.result w.value-is
          (λ i. both_ways (has q.span.lower d.place) (ap (λ x. has x d.place) (sym c.lower.ensures) ∙ sym c.contains.ensures ∙ w.if-contains.false) i)
          w.misses_from.ensures
    ])
    (first_holds r (ap not c.if-not-contains.true) (ap (λ x. has x d.place) (sym c.upper.ensures) ∙ sym c.contains-then-misses_from.ensures ∙ c.if-not-contains.true)))

pub returns-else-not-contains : goal.returns-else-not-contains
returns-else-not-contains g t c =
    let s = g.M.Measure.scale in let q = c.args.self.now in let domain = c.args.domain in
    let d = c.in-Some.d in let rest = c.without-rest.result in
    let split = first_rest domain d.place rest d.small c.in-Some.ensures c.without-rest.ensures in
    let first = c.in-Some-split_first.ensures.cases.0 in
    let v : Bool = c.if-contains.value in let r : Bool = c.misses_from-else-not-contains.result in
    moved s q.span.lower q.span.upper q.low q.high r (sym split) (sym first) refl
    (decided_both s q.span.lower q.span.upper q.span.nested q.low q.high d.place (decisions rest) c.in-Some-split_first.w.now c.in-Some-split_first.tail.now c.args.t
    (subst Sorted split (sorted_decisions 64 domain)) v r c.if-misses_from.true
    (elim c.if-contains.branch [
      | then-contains w ↦ first_holds v (w.value-is ∙ w.if-contains.true) (ap (λ x. has x d.place) (sym c.lower.ensures) ∙ sym c.contains.ensures ∙ w.if-contains.true)
      | else-contains w ↦ first_fails v w.misses_from.result w.value-is
          (λ i. both_ways (has q.span.lower d.place) (ap (λ x. has x d.place) (sym c.lower.ensures) ∙ sym c.contains.ensures ∙ w.if-contains.false) i)
          w.misses_from.ensures
    ])
    (first_fails r r refl
    (λ o. both_ways (has q.span.upper d.place) o (ap (λ x. has x d.place) (sym c.upper.ensures) ∙ sym c.contains-then-misses_from.ensures ∙ c.if-not-contains.false))
    (moved s q.span.lower q.span.upper q.low q.high r refl refl c.with.ensures c.misses_from-else-not-contains.ensures)))
