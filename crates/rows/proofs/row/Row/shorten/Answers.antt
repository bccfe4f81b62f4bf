use Rattle.std.proofs.Common.{◌-◌, ◌≤◌, take, sym, ap, ◌∙◌, arith}
use Rattle.std.proofs.lemmas.List.{take-take}
use Rattle.rows.specs.Rows.{held}
use Rattle.rows.proofs.Rows.{length_held}
use Rattle.rows.proofs.row.Row.shorten.Goals as goal

pub returns : goal.returns
returns g c =
    let row = c.args.self.now in
    let l : row.len - 1 ≤ row.len = omega arith in
    sym (take-take _ _ row.items l) ∙ ap (λ n. take (n - 1) (held row)) (sym (length_held row))
