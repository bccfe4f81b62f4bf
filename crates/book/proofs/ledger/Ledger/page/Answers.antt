use Rattle.std.proofs.Common.{◌≡◌, ℕ, ◌<◌, ◌≤◌, length, get_or, sym, refl, ap, ◌∙◌, subst, inr, arith, rules}
use Rattle.std.proofs.lemmas.List.{length-map, length-take-le, get_or-map}
use Rattle.rows.specs.Rows.{held}
use Rattle.rules.specs.Shapes.{way_of, rule_of, rules_of}
use Rattle.account.specs.Account as plain
use Rattle.book.specs.Counts.{counts}
use Rattle.book.specs.Looking.{Tells}
use Rattle.book.specs.View.{page_of}
use Rattle.book.specs.declared.page.Page.{Page}
use Rattle.book.proofs.ledger.Ledger.page.Goals as goal

pub returns-in_default : goal.returns-in_default
returns-in_default g c =
    let ps = held c.args.self.now.pages in
    let same = length-map ps (page_of (rules_of (held c.args.self.now.rules))) in
    let enough = c.if-is_short.ensures in
    let past : length ps ≤ c.args.number = search rules in
    (refl, inr ((refl, refl), omega arith, omega arith))

pub returns : goal.returns
returns g c =
    let ps = held c.args.self.now.pages in
    let rs = held c.args.self.now.rules in
    let ls = rules_of rs in
    let page = c.in-Some.page.now in
    let n = c.args.number in
    let told = c.from.ensures in
    let same = length-map ps (page_of ls) in
    let enough = c.if-is_short.ensures in
    let there : n < length ps = search rules in
    let this : page ≡ get_or ps n page = search rules in
    let on : Page → ℕ = λ p. p.rules in
    let counted : get_or (counts ps) n 0 ≡ page.rules = get_or-map on ps n page 0 there ∙ ap on (sym this) in
    let all = length-map ps on in
    let most = c.args.self.now.level.1 n (omega arith) in
    let least = c.args.self.now.level.0 in
    let rules-same = length-map rs rule_of in
    let few : page.rules ≤ length ls = omega arith in (
      omega arith,
      omega arith,
      λ d. subst (λ (p : plain.Page). Tells p c.from.result c.args.memory.now c.write_ranks.new.memory)
          (sym (get_or-map (page_of ls) ps n page d there ∙ ap (page_of ls) (sym this)))
          record {
            way = ap way_of told.0;
            «set» = told.1;
            rules = told.2 ∙ sym (length-take-le page.rules ls few);
            memory = c.write_ranks.ensures;
          },
    )
