-- The file of the drawing that the order file gives.
use Rattle.panel.specs.Reading.{ended, drawn}
use Rattle.panel.proofs.draw.Goals as goal

pub put_drawing-requires : goal.put_drawing-requires
put_drawing-requires c = ended _ _ (rw c.in_ok-read_order.was at c.read_order.ensures)

pub returns-clause-wrote : goal.returns-clause-wrote
returns-clause-wrote c = drawn _ _ (rw c.in_ok-read_order.was at c.read_order.ensures) c.put_drawing.ensures
