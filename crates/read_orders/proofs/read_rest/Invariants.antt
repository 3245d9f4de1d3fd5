-- `read_rest` meets its contract. The loop's invariant: the points that are left, from the drawing of now, give what all of them give.
use Rattle.std.specs.Prelude.{◌-◌}
use Rattle.read_orders.proofs.Turns.{Turn}
use Rattle.read_orders.proofs.read_rest.Given as goal

abbrev pub invariant-loop : goal.invariant-loop
invariant-loop l = Turn l.start.file.now l.start.at l.points l.initial.d l.d l.at (l.points - l.counter)
