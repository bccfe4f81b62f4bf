use Rattle.std.proofs.Common.{leb, rules, tests}
use Rattle.std.proofs.lemmas.Iterator.{cases_from_any, YieldsList-from_slice}
use Rattle.std.proofs.lemmas.Iterator.Consumers.{YieldsList-at, YieldsList-from_copied}
use Rattle.std.proofs.lemmas.Iterator.Search.{YieldsList-from_take_while}
use Rattle.sets.specs.Sets.{Between}
use Rattle.listed.proofs.Rows.{front, same_front, none_stands}
use Rattle.listed.proofs.row.Ascending.holds_none.Goals as goal

pub returns : goal.returns
returns c =
    let s = c.args.span in let near = c.near-near.result.sets.now in let row = c.args.self.now.sets.now in
    none_stands row (front s.upper near) s.lower s.upper (same_front s.lower s.upper row near c.near-near.result.ascends c.near-near.ensures.same) c.any.result
    (cases_from_any _ _ c.any.result (λ x. Between s.lower s.upper x) (λ x. Between s.lower s.upper x → ⊥) c.any.ensures.ran
    (YieldsList-from_take_while _ (λ x. leb x s.upper)
    (YieldsList-at c.take_while-near.ensures.source (YieldsList-from_copied (YieldsList-at c.copied.ensures.source (YieldsList-from_slice near c.iter.ensures.rest))))
    c.take_while-near.ensures.closure c.take_while-near.ensures.done (λ x b q k. search (rules, tests)))
    (λ x q k. search (rules, tests)) (λ x q k. search (rules, tests)))
