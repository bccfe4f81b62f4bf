-- The meaning of valid tables is lawful.
use Rattle.std.specs.Prelude.{◌≡◌, ℕ, true, List}
use Rattle.std.proofs.Common.{ap, subst, arith}
use Rattle.std.proofs.lemmas.List.{get_or_past}
use Rattle.banks.specs.Meaning.{Lawful}
use Rattle.banks.specs.Tables.{Few}
use Rattle.sets.specs.Lists.{member}
use Rattle.sets.specs.Sets.{◌⊆◌}
use Rattle.sets.proofs.Ascending.{member_place}
use Rattle.sets.proofs.Members.{and_sub_of}
use Rattle.listed.specs.Tables.{row, condition, no_condition, listed, Narrow, Contained}
use Rattle.listed.specs.declared.condition.ListedCondition.{ListedCondition}

contained_sets : (cs : List ListedCondition) (sets : List ℕ) → Contained cs sets → (k f : ℕ) → member f (row (condition cs k) sets) ≡ true → f ⊆ (condition cs k).domain
contained_sets cs sets h k f m =
    let p = member_place f (row (condition cs k) sets) m in
    subst (λ (x : ℕ). x ⊆ (condition cs k).domain) p.2 (and_sub_of _ _ (h k p.0 p.1))

pub listed_lawful : (cs : List ListedCondition) (sets : List ℕ) → Few cs → Narrow cs → Contained cs sets → Lawful (listed cs sets)
listed_lawful cs sets few narrow contained = record {
  few = omega arith;
  narrow = narrow;
  inside = contained_sets cs sets contained;
  no_domain = λ k h. ap (λ (c : ListedCondition). c.domain) (get_or_past cs k no_condition h);
  no_family = λ k f h. ap (λ (c : ListedCondition). member f (row c sets)) (get_or_past cs k no_condition h);
}
