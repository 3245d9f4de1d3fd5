-- `planar_numbering::number` meets its contract: point n, those down to point 3, and points 1 and 2 in front of them.
use Rattle.planar_numbering.specs.Numbered.{all_numbered}
use Rattle.planar_numbering.proofs.number.Goals as goal

pub returns : goal.returns
returns c = rw c.neighbour.ensures (all_numbered c.count_down.ensures)
