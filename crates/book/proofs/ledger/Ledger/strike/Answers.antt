use Rattle.std.proofs.Common.{◌≡◌, ◌-◌, List, map, length, take, sym, refl, ap, ◌∙◌, arith}
use Rattle.std.proofs.lemmas.List.{take-map}
use Rattle.answer_sets.specs.Rules as meant
use Rattle.rows.specs.Rows.{held}
use Rattle.rules.specs.Shapes.{rule_of, rules_of}
use Rattle.book.specs.Counts.{counts, Level}
use Rattle.book.specs.View.{page_of}
use Rattle.book.proofs.Pages.{pages_take}
use Rattle.book.proofs.ledger.Ledger.strike.Goals as goal

pub returns : goal.returns
returns g c =
    let rs = held c.args.self.now.rules in
    let ps = held c.args.self.now.pages in
    let n = length rs - 1 in
    let top = c.requires in
    let level : Level (counts ps) n = (omega arith, c.args.self.now.level.1) in
    let rules : rules_of (held c.pop.new.self) ≡ take n (rules_of rs) = ap rules_of c.pop.ensures.items ∙ sym (take-map rule_of n rs) in
    record {
      after = (rules, ap (λ (l : List meant.Rule). map (page_of l) ps) rules ∙ pages_take ps (rules_of rs) n level);
      same = refl;
    }
