-- Each comma is one field more.
use Rattle.std.proofs.Common.{refl, arith}
use Rattle.trace.proofs.Splitting.{parts_none, one_part, two_parts, parts_more, parts_next}
use Rattle.trace.proofs.line.Line.split.Goals as goal

pub returns-in_err-asu : goal.returns-in_err-asu
returns-in_err-asu c = rw c.from_residual.ensures (one_part 44 _ 5 (omega arith) c.in_err-asu.ensures)

pub returns-in_err-lba : goal.returns-in_err-lba
returns-in_err-lba c =
    rw c.from_residual-in_err-lba.ensures (parts_more c.in_ok-asu.ensures 4 (one_part 44 _ 4 (omega arith) c.in_err-lba.ensures))

pub returns-in_err-size : goal.returns-in_err-size
returns-in_err-size c =
    rw c.from_residual-in_err-size.ensures (parts_more c.in_ok-asu.ensures 4 (parts_more c.in_ok-lba.ensures 3
    (one_part 44 _ 3 (omega arith) c.in_err-size.ensures)))

pub returns-in_err-opcode : goal.returns-in_err-opcode
returns-in_err-opcode c =
    rw c.from_residual-in_err-opcode.ensures (parts_more c.in_ok-asu.ensures 4 (parts_more c.in_ok-lba.ensures 3
    (parts_more c.in_ok-size.ensures 2 (one_part 44 _ 2 (omega arith) c.in_err-opcode.ensures))))

pub returns-in-Some : goal.returns-in-Some
returns-in-Some c =
    parts_more c.in_ok-asu.ensures 4 (parts_more c.in_ok-lba.ensures 3
    (parts_more c.in_ok-size.ensures 2 (parts_more c.in_ok-opcode.ensures 1 (two_parts c.in-Some.ensures))))

pub returns-in-None : goal.returns-in-None
returns-in-None c =
    let last = parts_next c.in_ok-opcode.ensures (parts_none 44 _ c.in-None.ensures) in
    (refl, parts_next c.in_ok-asu.ensures (parts_next c.in_ok-lba.ensures (parts_next c.in_ok-size.ensures last)))
