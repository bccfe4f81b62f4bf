use Rattle.std.proofs.Common.{◌≡◌, ◌*◌, length, drop}
use Rattle.rows.specs.Rows.{held}
use Rattle.hexlines.specs.Hex.{Front}
use Rattle.hexlines.proofs.line.front.Given as goal

abbrev pub invariant-loop-b : goal.invariant-loop-b
invariant-loop-b l = Front l.text (held l.line) × (l.rest ≡ drop (2 * length (held l.line)) l.text)

abbrev pub decreases-loop-b : goal.decreases-loop-b
decreases-loop-b l = length l.rest
