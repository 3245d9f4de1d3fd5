-- `draw_in` of an order file meets its contract.
use Rattle.std.specs.Prelude.{refl}
use Rattle.panel_asked.specs.Read.{drew-read, came-read}
use Rattle.panel_doors.proofs.OrderFileSource.draw_in.Goals as goal

pub returns-clause-has : goal.returns-clause-has
returns-clause-has c = came-read _ _ _ c.read_order.ensures

pub returns-clause-drew : goal.returns-clause-drew
returns-clause-drew c = (_, refl, drew-read _ _ _ c.read_order.ensures)
