-- `read_rest` meets its contract: each way out of a turn, and the end.
use Rattle.std.proofs.Common.{◌+◌, ◌-◌, arith}
use Rattle.rules.specs.Results.{handed_on}
use Rattle.read_orders.proofs.Turns.{turn_next, turn-refused, turn_end}
use Rattle.read_orders.proofs.read_rest.Goals as goal

pub returns-in_err-at : goal.returns-in_err-at
returns-in_err-at c =
    let m = c.moved_to.ensures in
    rw (handed_on c.from_residual.result _ c.from_residual.ensures.1)
    (turn-refused c.loop.invariant {k = c.args.points - (c.loop.counter + 1)} (omega arith) (rw (m.same_file, m.place) at c.in_err-at.ensures))

pub loop-preserved : goal.loop-preserved
loop-preserved c =
    let m = c.moved_to.ensures in
    turn_next c.loop.invariant (omega arith) (rw (m.same_file, m.place) at c.in_ok-at.ensures)

pub returns : goal.returns
returns c =
    let m = c.moved_to-2.ensures in
    turn_end c.loop.invariant (omega arith) _ (rw (m.same_file, m.place) at c.end.ensures)
