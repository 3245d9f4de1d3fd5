-- `tool::whole_number` meets its contract: x is a number from 1 to `most` exactly if it equals its whole part, and that is one.
use Rattle.std.proofs.Common.{arith}
use Rattle.tool.proofs.Wholes.{number, no_number}
use Rattle.tool.proofs.whole_number.Goals as goal
use Rattle.tool.proofs.whole_number.Goals.{else-n-ge1-via-then-n-ge1+then-n-from+else-x-n, else-n-ge1-via-then-n-ge1+else-n-from, else-n-ge1-via-else-n-ge1}

pub returns-then-x-n : goal.returns-then-x-n
returns-then-x-n c = number c.args.most c.args.x c.whole_part-n.result c.requires (omega arith) (omega arith) c.if-x-n.true

pub returns : goal.returns
returns c =
    no_number c.args.most c.args.x c.whole_part-n.result c.requires c.whole_part-n.ensures
    (elim c.else-n-ge1.branch [
      | else-n-ge1-via-then-n-ge1+then-n-from+else-x-n w ↦ λ l u. w.if-x-n.false
      | else-n-ge1-via-then-n-ge1+else-n-from w ↦ λ l u. absurd (omega arith)
      | else-n-ge1-via-else-n-ge1 w ↦ λ l u. absurd (omega arith)
    ])
