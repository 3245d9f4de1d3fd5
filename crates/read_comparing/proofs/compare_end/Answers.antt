-- `read_comparing::compare_end`: nothing is left, or the next byte is one too many.
use Rattle.std.proofs.Common.{arith}
use Rattle.read_comparing.specs.Parts.{end_passed, end_stopped}
use Rattle.read_comparing.proofs.compare_end.Goals as goal

pub returns : goal.returns
returns c = end_passed c.args.file.now c.args.at (omega arith)

pub returns-then-at-file : goal.returns-then-at-file
returns-then-at-file c = rw c.at.ensures (end_stopped c.args.file.now c.args.at (omega arith))
