use Rattle.std.proofs.Common.{◌≡◌, ℕ, List, [], ◌∷◌, ◌++◌, map, length, take, sym, refl, ap, ◌∙◌, subst, arith}
use Rattle.std.proofs.lemmas.List.{length-map, map_push, take_all}
use Rattle.judge.specs.declared.ranks.Ranks.{Ranks}
use Rattle.answer_sets.specs.Rules as meant
use Rattle.rows.specs.Rows.{held}
use Rattle.rows.proofs.Rows.{pushed}
use Rattle.rules.specs.declared.way.Way.{Way}
use Rattle.rules.specs.Shapes.{way_of, rule_of, rules_of}
use Rattle.account.specs.Account as plain
use Rattle.book.specs.Counts.{counts, Level}
use Rattle.book.specs.View.{page_of}
use Rattle.book.specs.declared.page.Page.{Page}
use Rattle.book.proofs.Pages.{level_push}
use Rattle.book.proofs.ledger.Ledger.add_page.Goals as goal

abbrev paged : meant.Way → ℕ → List ℕ → List meant.Rule → plain.Page
paged w M ranks rules = record { way = w; «set» = M; ranks = ranks; rules = rules }

-- what a page on all the rules stands for
same_page : (page : Page) (w : Way) (M : ℕ) (ranks : Ranks) (rules : List meant.Rule) → page.way ≡ w → page.«set» ≡ M → page.ranks ≡ ranks
    → take page.rules rules ≡ rules → page_of rules page ≡ paged (way_of w) M ranks.bytes rules
same_page page w M ranks rules e f g h i = paged (way_of (e i)) (f i) (g i).bytes (h i)

pub invariant_of-self : goal.invariant_of-self
invariant_of-self g c =
    let ps = held c.args.self.now.pages in
    let rs = held c.args.self.now.rules in
    let page = c.page_on-page.result in
    let more : held c.push.new.self ≡ ps ++ page ∷ [] = pushed _ _ _ c.push.result c.requires c.push.ensures in
    let on : counts (held c.push.new.self) ≡ counts ps ++ length rs ∷ [] =
    ap counts more ∙ map_push (λ (p : Page). p.rules) ps page ∙ ap (λ (k : ℕ). counts ps ++ k ∷ []) (c.page_on-page.ensures.3 ∙ c.len.ensures.value) in
    record { level = subst (λ (ns : List ℕ). Level ns (length rs)) (sym on) (level_push (counts ps) (length rs) c.args.self.now.level) }

pub returns : goal.returns
returns g c =
    let ps = held c.args.self.now.pages in
    let ls = rules_of (held c.args.self.now.rules) in
    let page = c.page_on-page.result in
    let m = c.page_on-page.ensures in
    let more : held c.push.new.self ≡ ps ++ page ∷ [] = pushed _ _ _ c.push.result c.requires c.push.ensures in
    let rules-same = length-map (held c.args.self.now.rules) rule_of in
    let count = m.3 ∙ c.len.ensures.value in
    let whole : take page.rules ls ≡ ls = take_all page.rules ls (omega arith) in
    let this : page_of ls page ≡ paged (way_of c.args.way) c.args.set c.args.ranks.bytes ls = same_page page c.args.way c.args.set c.args.ranks ls m.0 m.1 m.2 whole in
    record {
      number = c.len-at.ensures.value ∙ sym (length-map ps (page_of ls));
      after = (refl, ap (map (page_of ls)) more ∙ map_push (page_of ls) ps page ∙ ap (λ (p : plain.Page). map (page_of ls) ps ++ p ∷ []) this);
      same = refl;
    }
