use Rattle.std.proofs.Common.{length, refl, ap, arith}
use Rattle.rows.specs.Rows.{held}
use Rattle.rows.proofs.Rows.{held_bound}
use Rattle.hexlines.proofs.Lines.{length_line}
use Rattle.archive.proofs.Over.{line_puts}
use Rattle.archive.proofs.writing.put_line.Goals as goal

pub overflow_add-end : goal.overflow_add-end
overflow_add-end c =
    let b = held_bound c.args.line.now in
    let e = ap length c.as_slice-bytes.ensures in omega arith

pub overflow_add-end-2 : goal.overflow_add-end-2
overflow_add-end-2 c =
    let b = held_bound c.args.line.now in
    let e = ap length c.as_slice-bytes.ensures in omega arith

pub returns-then-end-memory : goal.returns-then-end-memory
returns-then-end-memory c =
    let b = held_bound c.args.line.now in
    let e = ap length c.as_slice-bytes.ensures in
    record {
      puts = line_puts c.args.memory.now c.put_bytes.new.memory c.put.new.memory (held c.args.line.now) c.as_slice-bytes.result.now c.args.at
          c.as_slice-bytes.ensures c.if-end-memory.true c.put_bytes.ensures c.put_bytes.auto.memory c.put.ensures;
      near = omega arith;
    }

pub returns-else-end-memory : goal.returns-else-end-memory
returns-else-end-memory c =
    let b = held_bound c.args.line.now in
    let e = ap length c.as_slice-bytes.ensures in
    let n = length_line (held c.args.line.now) in
    let short = c.if-end-memory.false in
    record {
      puts = record { ends = omega arith; long = refl; written = λ room. absurd (omega arith) };
      near = omega arith;
    }
