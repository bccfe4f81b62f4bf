use Rattle.std.proofs.Common.{◌≡◌, leb, refl, rules, tests, arith}
use Rattle.std.proofs.lemmas.Iterator.{YieldsList-from_slice}
use Rattle.std.proofs.lemmas.Iterator.Consumers.{YieldsList-at, YieldsList-from_copied, YieldsList-from_filter, YieldsList-from_first}
use Rattle.std.proofs.lemmas.Iterator.Search.{YieldsList-from_take_while}
use Rattle.sets.specs.Coming.{to_come}
use Rattle.sets.specs.Walks.{sets_between}
use Rattle.listed.proofs.Rows.{front, ascends_front, same_front, all_stand, within, within_is, decides_from_eq}
use Rattle.listed.proofs.row.Ascending.lists.Goals as goal

pub returns : goal.returns
returns c =
    let s = c.args.span in let row = c.args.self.now.sets.now in let asc = c.args.self.now.ascends in
    all_stand row (front s.upper row) s.lower s.upper (same_front s.lower s.upper row row asc (λ f b. refl)) s.nested (omega arith) (ascends_front s.upper row asc) c.eq.result
    (decides_from_eq (λ x y. y ≡ x) c.of.result c.eq.result c.eq.ensures.ran
    (YieldsList-from_filter _ (within s.lower s.upper)
    (YieldsList-at c.filter.ensures.source (YieldsList-from_take_while _ (λ x. leb x s.upper)
    (YieldsList-at c.take_while.ensures.source (YieldsList-from_copied (YieldsList-at c.copied-near.ensures.source (YieldsList-from_slice row c.iter.ensures.rest))))
    c.take_while.ensures.closure c.take_while.ensures.done (λ x b q k. search (rules, tests))))
    c.filter.ensures.closure (λ x b q k. (search (rules, tests), within_is s.lower s.upper b x (search (rules, tests)))))
    (λ it e. YieldsList-from_first (λ x. x) (λ t. to_come t.walk) (sets_between s.lower s.upper) cc))
