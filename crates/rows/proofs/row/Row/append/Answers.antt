use Rattle.std.proofs.Common.{◌<◌, length, arith}
use Rattle.std.proofs.lemmas.List.{take_more_set}
use Rattle.rows.proofs.Rows.{length_held}
use Rattle.rows.proofs.row.Row.append.Goals as goal

pub returns : goal.returns
returns g c =
    let e = length_held c.args.self.now in
    let h : c.args.self.now.len < length c.args.self.now.items = omega arith in
    let t = take_more_set c.args.self.now.items c.args.self.now.len c.args.x h in
    cc
