use Rattle.std.proofs.Common.{rules}
use Rattle.std.proofs.lemmas.Iterator.{cases_from_all, YieldsList-from_slice}
use Rattle.weighed.specs.Tables.{Sound}
use Rattle.weighed.proofs.Picking.{decides_all}
use Rattle.weighed.proofs.tables.all_sound.Goals as goal

pub returns : goal.returns
returns g c =
    let s = g.M.Measure.scale in let ws = c.args.weights.now in
    decides_all (Sound s ws) c.args.conditions.now c.all.result
    (cases_from_all _ _ _ (Sound s ws) (λ x. ¬ (Sound s ws x)) c.all.ensures.ran (YieldsList-from_slice c.args.conditions.now (cc)) (λ x q k. search rules) (λ x q k. search rules))
