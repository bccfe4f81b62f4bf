use Rattle.std.proofs.Common.{refl}
use Rattle.std.proofs.lemmas.Bool.{both_ways}
use Rattle.rules.specs.Shapes.{way_of, rules_of}
use Rattle.judge.proofs.Stamping.{stamped_rounds, borne_ranked}
use Rattle.judge.proofs.program.Program.find_ranks.Goals as goal

pub returns-then-not-covers : goal.returns-then-not-covers
returns-then-not-covers g c b =
    let p = c.args.self.now in let m = g.B.Bank.meaning p.bank.now in let r = c.first_rounds-ranks in
    both_ways c.covers.result c.if-not-covers.true
    (c.covers.ensures.1 (borne_ranked m (way_of p.way) (rules_of p.rules.now) c.args.set c.ranges.set.fits (c.if-not-keeps_all.ensures.0 refl) r.result.bytes r.ensures b))

pub returns : goal.returns
returns g c =
    let p = c.args.self.now in let m = g.B.Bank.meaning p.bank.now in let r = c.first_rounds-ranks in
    stamped_rounds m (way_of p.way) (rules_of p.rules.now) c.args.set c.ranges.set.fits (c.if-not-keeps_all.ensures.0 refl) r.result.bytes r.ensures r.result.all
    (c.if-not-covers.ensures.0 refl)
