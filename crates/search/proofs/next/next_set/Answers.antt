use Rattle.std.proofs.Common.{ℕ, ◌≤◌, List, length, sym, refl, ap, ◌∙◌, subst, inr}
use Rattle.std.specs.List.{AllByRecursion}
use Rattle.std.proofs.lemmas.Option.{MatchOption-at_some, MatchOption-at_none}
use Rattle.answer_sets.specs.Rules.{Borne}
use Rattle.rules.specs.Shapes.{way_of, rules_of}
use Rattle.sets.specs.Coming.{to_come}
use Rattle.search.specs.Ahead.{FirstBorne, NoneBorne}
use Rattle.search.proofs.Candidates.{few_candidates, lowest_answer, no_answer}
use Rattle.search.proofs.next.next_set.Goals as goal

pub first_borne-stop-requires : goal.first_borne-stop-requires
first_borne-stop-requires g c =
    let d = c.in_ok-from.ensures in
    subst (λ (l : List ℕ). length l ≤ 65536) (sym d.coming) (few_candidates d.heads d.fits c.args.start d.few)

pub returns-in-Some : goal.returns-in-Some
returns-in-Some g c =
    let m = g.B.Bank.meaning c.args.program.now.bank.now in let w = way_of c.args.program.now.way in let rs = rules_of c.args.program.now.rules.now in
    let d = c.in_ok-from.ensures in let s = c.in-Some.set in let stop = c.first_borne-stop.result in
    let coming = to_come c.in_ok-from.from in
    let k = MatchOption-at_some (NoneBorne m w rs coming stop.tried) (FirstBorne m w rs coming (to_come stop.ahead) stop.tried) s c.in-Some.is c.first_borne-stop.ensures in
    let split = sym d.coming ∙ k.split in
    record {
      found = record {
        heads = d.heads;
        drawn = d.drawn;
        few = d.few;
        before = k.before;
        after = to_come stop.ahead;
        split = split;
        count = k.count;
        borne = k.borne;
        none_before = k.none_before;
      };
      published = lowest_answer d.heads d.fits c.args.start m w rs d.drawn s k.before (to_come stop.ahead) split k.borne k.none_before;
    }

pub returns-in-None : goal.returns-in-None
returns-in-None g c =
    let m = g.B.Bank.meaning c.args.program.now.bank.now in let w = way_of c.args.program.now.way in let rs = rules_of c.args.program.now.rules.now in
    let d = c.in_ok-from.ensures in let stop = c.first_borne-stop.result in
    let coming = to_come c.in_ok-from.from in
    let k = MatchOption-at_none (NoneBorne m w rs coming stop.tried) (FirstBorne m w rs coming (to_come stop.ahead) stop.tried) c.in-None.is c.first_borne-stop.ensures in
    let none = subst (AllByRecursion (λ n. Borne m w rs n → ⊥)) d.coming k.none in
    record {
      found = inr (
        stop.tried,
        (refl, refl),
        record {
          heads = d.heads;
          drawn = d.drawn;
          few = d.few;
          count = k.count ∙ ap length d.coming;
          none = none;
        },
      );
      published = λ _. no_answer d.heads d.fits c.args.start m w rs d.drawn none;
    }
