use Rattle.std.proofs.Common.{◌*◌, length, drop, Some, sym, ap, ◌∙◌, subst, arith}
use Rattle.std.proofs.lemmas.List.{length_push, drop-drop}
use Rattle.rows.specs.Rows.{held}
use Rattle.hexlines.specs.Hex.{Pair}
use Rattle.hexlines.proofs.Lines.{front_none, front_more}
use Rattle.hexlines.proofs.line.front.Goals as goal

pub loop-b-init : goal.loop-b-init
loop-b-init c =
    let none = ap length c.new-line.ensures in
    (front_none c.args.text.now (held c.new-line.result) c.new-line.ensures, sym (ap (λ n. drop (2 * n) c.args.text.now) none))

pub loop-b-preserved : goal.loop-b-preserved
loop-b-preserved c =
    let inv = c.loop-b.invariant in
    let text = c.args.text.now in
    let bytes = held c.loop-b.line in
    let b = c.in-Some.b in
    let more = c.in-Ok.ensures.1 in
    let here : Pair (drop (2 * length bytes) text) (Some b) = subst (λ l. Pair l (Some b)) inv.1 c.in-Some.ensures.0 in
    let longer = length_push bytes b in
    let count = ap length more in (
      front_more text bytes (held c.push.new.self) b inv.0 here more,
      c.in-Some.ensures.1 ∙ ap (drop 2) inv.1 ∙ drop-drop 2 (2 * length bytes) text ∙ ap (λ k. drop k text) (omega arith),
    )
