-- What the order reader gave, by value.
use Rattle.panel.specs.Reading.{given}
use Rattle.panel.proofs.drawing_of.Goals as goal

pub returns-clause-given : goal.returns-clause-given
returns-clause-given c = given _ _ (rw c.in_ok-read_order.was at c.read_order.ensures)
