use Rattle.std.proofs.Common.{ℕ, ◌≤◌, ◌<◌, length, get_or, sym, subst}
use Rattle.std.proofs.lemmas.Bool.{both_ways}
use Rattle.sets.proofs.Ascending.{sorted_of}
use Rattle.sets.proofs.Members.{sub_le}
use Rattle.listed.proofs.Rows.{from_first}
use Rattle.listed.proofs.row.Ascending.near.Goals as goal

pub returns-then-starts_below-clause-same : goal.returns-then-starts_below-clause-same
returns-then-starts_below-clause-same c =
    λ f b. c.from_lower.ensures.same f (subst (λ (y : ℕ). y ≤ f) (sym c.lower-then-starts_below.ensures) (sub_le c.args.span.lower f b.0))

pub returns-else-starts_below-clause-from : goal.returns-else-starts_below-clause-from
returns-else-starts_below-clause-from c =
    let row = c.args.self.now.sets.now in
    from_first c.args.span.lower row (sorted_of row c.args.self.now.ascends)
    (λ h. both_ways c.starts_below.result c.if-starts_below.false (c.starts_below.ensures.1 (subst (λ (y : ℕ). (0 < length row) × (get_or row 0 0 < y)) (sym c.lower.ensures) h)))
