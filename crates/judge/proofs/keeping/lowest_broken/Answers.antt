use Rattle.std.proofs.Common.{rules, tests}
use Rattle.std.proofs.lemmas.Iterator.{YieldsList-from_slice, IsFirst-from_position}
use Rattle.answer_sets.specs.Rules as meant
use Rattle.answer_sets.specs.Rules.{Keeps}
use Rattle.rules.specs.Shapes.{rule_of}
use Rattle.judge.proofs.Passing.{first_broken, first_broken_mapped}
use Rattle.judge.proofs.keeping.lowest_broken.Goals as goal

pub returns : goal.returns
returns g c =
    let P : meant.Rule → Type 0 = Keeps (g.B.Bank.meaning c.args.bank.now) c.args.set in
    let first = IsFirst-from_position _ _ c.position.result (λ r. P (rule_of r) → ⊥) (λ r. P (rule_of r)) c.position.ensures.ran (YieldsList-from_slice c.args.rules.now (cc))
    (λ x q k. search (rules, tests)) (λ x q k. search (rules, tests)) in
    record { lowest = first_broken_mapped rule_of P c.args.rules.now c.position.result first; broken = first_broken rule_of P c.args.rules.now c.position.result first }
