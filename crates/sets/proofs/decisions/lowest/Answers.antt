-- 64 zeros below the lowest decision say that there is none, and any other count is the lowest decision.
use Rattle.std.proofs.Common.{◌≡◌, ℕ, ◌^◌, ◌<◌, ◌≤◌, Some, None, Option, sym, ◌∙◌, subst, ⊎_elim, arith, MatchOption}
use lib.Count.{count_trailing_zeros}
use Rattle.sets.specs.Sets.{Lowest}
use Rattle.sets.specs.declared.decision.Decision.{Decision}
use Rattle.sets.proofs.Listing.{lowest_trailing}
use Rattle.sets.proofs.decisions.lowest.Goals as goal

by_count : (r : Option Decision) (s t : ℕ) → s < 2 ^ 64 → t ≡ count_trailing_zeros 64 s → MatchOption r (64 ≤ t) (λ d. d.place ≡ t) → MatchOption r (s ≡ 0) (λ d. Lowest d.place s)
by_count None s t h e c = ⊎_elim (λ p. p.1) (λ p. let q = p.0 in absurd (omega arith)) (lowest_trailing 64 s h)
by_count (Some d) s t h e c =
    ⊎_elim (λ p. let q = p.0 in let l = d.small in absurd (omega arith))
    (λ p. subst (λ (x : ℕ). Lowest x s) (sym (c ∙ e)) p.1) (lowest_trailing 64 s h)

pub returns : goal.returns
returns c = by_count c.new.result c.args.set c.zeros_below.result (omega arith) c.zeros_below.ensures c.new.ensures
