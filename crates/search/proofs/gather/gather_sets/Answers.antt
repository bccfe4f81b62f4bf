use Rattle.std.proofs.Common.{ℕ, ◌≤◌, Some, List, length, sym, refl, ap, ◌∙◌, subst, arith, rules}
use Rattle.std.proofs.lemmas.Option.{MatchOption-at_some, MatchOption-at_none}
use Rattle.rows.proofs.Listings.{placing_none, placing_rest, placing_before, placing_put, placing_complete, placing_short}
use Rattle.rules.specs.Shapes.{way_of, rules_of}
use Rattle.sets.specs.Coming.{to_come}
use Rattle.search.specs.Ahead.{FirstBorne, NoneBorne}
use Rattle.search.proofs.Candidates.{few_candidates}
use Rattle.search.proofs.Gathering.{Small, borne_none, borne_first, small_rest, fewer_rest, small_candidates, gathers_of, ends_as}
use Rattle.search.proofs.gather.gather_sets.Goals as goal
use Rattle.search.proofs.gather.gather_sets.Goals.{in_default, in-Some+in-Err}

pub sets-init : goal.sets-init
sets-init g c =
    let d = c.in_ok-ahead.ensures in (
      refl,
      subst (λ (l : List ℕ). length l ≤ 65536) (sym d.coming) (few_candidates d.heads d.fits c.args.start d.few),
      subst Small (sym d.coming) (small_candidates d.heads d.fits c.args.start),
      placing_none c.new-list.ensures.none refl,
    )

pub sets-preserved : goal.sets-preserved
sets-preserved g c =
    let m = g.B.Bank.meaning c.args.program.now.bank.now in let w = way_of c.args.program.now.way in let rs = rules_of c.args.program.now.rules.now in
    let stop = c.first_borne-stop.result in let s = c.in-Some.set in let coming = to_come c.sets.ahead in let rest = to_come stop.ahead in
    let k = MatchOption-at_some (NoneBorne m w rs coming stop.tried) (FirstBorne m w rs coming rest stop.tried) s c.in-Some.is c.first_borne-stop.ensures in
    let small = c.sets.invariant.2 in (
      c.put.ensures.lender ∙ c.sets.invariant.0,
      omega (arith, fewer_rest m w rs coming rest stop.tried s small k, c.sets.invariant.1),
      small_rest m w rs coming rest stop.tried s small k,
      placing_put (placing_rest (borne_first m w rs coming rest stop.tried s small k) c.sets.invariant.3) c.in_default-put.ensures.puts,
    )

pub returns : goal.returns
returns g c =
    let m = g.B.Bank.meaning c.args.program.now.bank.now in let w = way_of c.args.program.now.way in let rs = rules_of c.args.program.now.rules.now in
    let stop = c.first_borne-stop.result in let coming = to_come c.sets.ahead in let rest = to_come stop.ahead in
    gathers_of m w rs c.args.start c.in_ok-ahead.ahead c.args.places.now _ _ c.in_ok-ahead.ensures
    (elim c.match-stop.branch [
      | in_default v ↦
          let k = MatchOption-at_none (NoneBorne m w rs coming stop.tried) (FirstBorne m w rs coming rest stop.tried) v.in_default.is c.first_borne-stop.ensures in
          ends_as v.unplaced-is
          (placing_complete (c.len.ensures ∙ ap (λ l. l.len) v.list-is) (search rules)
          (placing_before c.new-list.ensures.same (placing_rest (borne_none m w rs coming stop.tried c.sets.invariant.2 k) c.sets.invariant.3)))
      | in-Some+in-Err v ↦
          let s = v.in-Some.set in
          let k = MatchOption-at_some (NoneBorne m w rs coming stop.tried) (FirstBorne m w rs coming rest stop.tried) s v.in-Some.is c.first_borne-stop.ensures in
          let p = v.in-Err.ensures.puts in
          ends_as (v.unplaced-is ∙ ap (λ (y : ℕ). Some y) p.3)
          (placing_short (c.len.ensures ∙ ap (λ l. l.len) v.list-is ∙ p.1) (search rules ∙ p.2) p.0
          (placing_before c.new-list.ensures.same (placing_rest (borne_first m w rs coming rest stop.tried s c.sets.invariant.2 k) c.sets.invariant.3)))
    ])
