-- `read_comparing::compare_part`: the bytes that lie there are compared with the part, and a place among them is one in the file.
use Rattle.std.proofs.Common.{arith}
use Rattle.read_comparing.specs.Parts.{part_passed, part_stopped, stopped_within}
use Rattle.read_comparing.proofs.compare_part.Goals as goal

pub overflow_add-at-in-Err : goal.overflow_add-at-in-Err
overflow_add-at-in-Err c = omega (arith, stopped_within c.args.file.now c.args.part.now c.args.at _ c.requires c.min-end.ensures c.compare.ensures _ c.in-Err.is, c.min-end.type_inv)

pub returns-in-Ok : goal.returns-in-Ok
returns-in-Ok c = part_passed c.args.file.now c.args.part.now c.args.at _ c.requires c.min-end.ensures c.compare.ensures c.in-Ok.is

pub returns-in-Err : goal.returns-in-Err
returns-in-Err c = rw c.at.ensures (part_stopped c.args.file.now c.args.part.now c.args.at _ c.requires c.min-end.ensures c.compare.ensures _ c.in-Err.is)
