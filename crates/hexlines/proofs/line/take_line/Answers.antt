use Rattle.std.proofs.Common.{◌*◌, true, false, refl, subst, arith}
use Rattle.rows.specs.Rows.{held}
use Rattle.hexlines.specs.Hex.{Feed}
use Rattle.hexlines.proofs.Lines.{front_line, front_no_line}
use Rattle.hexlines.proofs.line.take_line.Goals as goal
use Rattle.hexlines.proofs.line.take_line.Goals.{then-len-eq0-via-then-len-eq0, then-len-eq0-via-else-len-eq0+then-not-ends_at}

pub returns-then-len-eq0 : goal.returns-then-len-eq0
returns-then-len-eq0 c =
    let text = c.args.text.now in
    let n = c.len-len.ensures.value in
    let told = c.front-line.ensures in (
      refl,
      front_no_line text (held c.front-line.result) told.front told.stops (elim c.then-len-eq0.branch [
        | then-len-eq0-via-then-len-eq0 w ↦ λ some. let none = w.if-len-eq0.true in absurd (omega arith)
        | then-len-eq0-via-else-len-eq0+then-not-ends_at w ↦ λ some. subst (λ k. Feed text (2 * k) false) n w.if-not-ends_at.ensures
      ]),
    )

pub returns : goal.returns
returns c =
    let text = c.args.text.now in
    let n = c.len-len.ensures.value in
    let few = c.len-len.ensures.bound in
    let some = c.if-len-eq0.false in
    front_line text (held c.front-line.result) (omega arith) (omega arith) c.front-line.ensures.front
    (subst (λ k. Feed text (2 * k) true) n c.if-not-ends_at.ensures)
