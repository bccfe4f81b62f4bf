use Rattle.std.proofs.Common.{◌≡◌, List, [], ◌∷◌, ◌++◌, map, length, sym, refl, ap, ◌∙◌, arith}
use Rattle.std.proofs.lemmas.List.{length-map, length_push, map_push}
use Rattle.answer_sets.specs.Rules as meant
use Rattle.rows.specs.Rows.{held}
use Rattle.rows.proofs.Rows.{pushed}
use Rattle.rules.specs.Shapes.{rule_of, rules_of}
use Rattle.book.specs.View.{page_of}
use Rattle.book.proofs.Pages.{level_up, pages_push}
use Rattle.book.proofs.ledger.Ledger.add_rule.Goals as goal

pub invariant_of-self : goal.invariant_of-self
invariant_of-self g c =
    let more = pushed _ _ _ c.push.result c.requires c.push.ensures in
    let longer = length_push (held c.args.self.now.rules) c.args.rule in
    record { level = level_up _ _ _ (omega (arith, ap length more)) c.args.self.now.level }

pub returns : goal.returns
returns g c =
    let rs = held c.args.self.now.rules in
    let ps = held c.args.self.now.pages in
    let x = c.args.rule in
    let more : held c.push.new.self ≡ rs ++ x ∷ [] = pushed _ _ _ c.push.result c.requires c.push.ensures in
    let same = length-map rs rule_of in
    let rules : rules_of (held c.push.new.self) ≡ rules_of rs ++ rule_of x ∷ [] = ap rules_of more ∙ map_push rule_of rs x in
    record {
      number = c.len-at.ensures.value ∙ sym same;
      after = (
        rules,
        ap (λ (l : List meant.Rule). map (page_of l) ps) rules ∙ pages_push ps (rules_of rs) (rule_of x ∷ []) (length rs) c.args.self.now.level (omega arith),
      );
      same = refl;
    }
