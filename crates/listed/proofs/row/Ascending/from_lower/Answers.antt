use Rattle.std.proofs.Common.{ℕ, List, ltb, take, sym, ap, subst, ◌∙◌, ◌<◌, ◌≤◌, zero-le, arith, rules}
use Rattle.std.proofs.lemmas.Bool.{ltb-true, ltb-false}
use Rattle.std.proofs.lemmas.List.{take_rest, get_or-take, length-take-le}
use Rattle.std.proofs.lemmas.List.Sorted.{IsPartitionPoint-from_clause, IsPartitionedBy-ltb}
use Rattle.sets.specs.Lists.{member}
use Rattle.listed.proofs.Rows.{rises, ascends_take, member_drop, all_from}
use Rattle.listed.proofs.row.Ascending.from_lower.Goals as goal

pub returns : goal.returns
returns c =
    let row = c.args.self.now.sets.now in let low = c.args.lower in let n = c.reach.result in let i = c.partition_point-from.result in
    let front = take n row in let long = length-take-le n row c.reach.ensures.0 in
    let at = IsPartitionPoint-from_clause (λ y. ltb y low) front i c.partition_point-from.ensures.partitioned
    (IsPartitionedBy-ltb (λ x. x) front low (rises front (ascends_take n row c.reach.ensures.0 c.args.self.now.ascends))) (λ a r q k. search rules) in
    let bound : i ≤ n = omega (arith, c.partition_point-from.ensures.bound, long) in
    let below = λ (j : ℕ) (l : j < i). subst (λ (y : ℕ). y < low) (get_or-take n row j 0 (omega arith)) (ltb-true _ _ (at.0 j 0 zero-le l)) in
    record {
      same = λ f h. ap (λ (xs : List ℕ). member f xs) (simp (take_rest)) ∙ member_drop row i f (λ j l. let b = below j l in omega arith);
      from = λ f m. all_from row c.args.self.now.ascends low n i bound below
          (λ j l k. subst (λ (y : ℕ). low ≤ y) (get_or-take n row j 0 k) (ltb-false _ _ (at.1 j 0 l (omega (arith, k, long)))))
          c.reach.ensures.1 f (sym (ap (λ (xs : List ℕ). member f xs) (simp (take_rest))) ∙ m);
    }
