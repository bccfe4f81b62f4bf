use Rattle.std.proofs.Common.{sym, subst, arith}
use Rattle.sets.specs.Sets.{Between}
use Rattle.sets.specs.Walks.{Next}
use Rattle.sets.proofs.Successor.{next_after}
use Rattle.sets.proofs.Listing.{after_inside, is_after}
use Rattle.sets.proofs.walk.Walk.successor.Goals as goal

pub returns : goal.returns
returns c =
    let w = c.args.self in
    let lo = w.span.lower in let up = w.span.upper in
    let e = sym (is_after lo up w.at c.lower.result c.upper-upper.result c.lower.ensures c.upper-upper.ensures (omega (arith, c.upper-upper.ensures, c.requires))) in
    record {
      inside = subst (Between lo up) e (after_inside lo up w.at w.span.nested (omega arith) w.inside);
      next = subst (Next lo up w.at) e (next_after 64 lo up w.at w.inside.0 w.inside.1 (omega arith) c.requires);
    }
