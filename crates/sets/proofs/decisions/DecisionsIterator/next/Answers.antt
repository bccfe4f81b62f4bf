use Rattle.std.proofs.Common.{◌≡◌, ℕ, ◌∷◌, length, sym, ap, ◌∙◌, arith, rules}
use Rattle.sets.specs.Walks.{decisions}
use Rattle.sets.proofs.Listing.{lowest_first, decisions_none}
use Rattle.sets.proofs.decisions.DecisionsIterator.next.Goals as goal
use Rattle.std.proofs.iter.Next.{firm}

pub returns-in_err-d-clause-steps : goal.returns-in_err-d-clause-steps
returns-in_err-d-clause-steps c = let none = decisions_none c.args.self.now.rest c.in_err-d.ensures in search rules

pub returns : goal.returns
returns c =
    let d : ℕ = c.in_ok-d.d.place in
    let e : decisions c.args.self.now.rest ≡ d ∷ decisions c.without-self.result =
    lowest_first c.args.self.now.rest d c.in_ok-d.d.small c.in_ok-d.ensures
    ∙ ap (λ (s : ℕ). d ∷ decisions s) (sym c.without-self.ensures) in
    record {
      steps = e;
      goes = firm ((tt, tt, omega (arith, ap length e))) (λ h. search rules);
    }
