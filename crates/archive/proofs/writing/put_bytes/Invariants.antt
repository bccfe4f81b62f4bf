use Rattle.std.proofs.Common.{◌≡◌, take}
use Rattle.hexlines.specs.Hex.{hex}
use Rattle.archive.specs.Writing.{over}
use Rattle.archive.proofs.writing.put_bytes.Given as goal

abbrev pub invariant-loop-i : goal.invariant-loop-i
invariant-loop-i l = l.memory ≡ over l.at (hex (take l.i l.bytes)) l.initial.memory
