-- `printing_import::finish_order` meets its contract, by the answer.
use Rattle.printing_import.specs.Finishing.{finished-order, finished-order-line}
use Rattle.printing_import.proofs.finish_order.Goals as goal

pub returns-in-Ok : goal.returns-in-Ok
returns-in-Ok c wanted before list list' s = finished-order s c.in-Ok.is

pub returns-in-Err : goal.returns-in-Err
returns-in-Err c wanted before list list' s = finished-order-line s c.in-Err.is (rw (← c.from.ensures) c.put_refusal.ensures)
