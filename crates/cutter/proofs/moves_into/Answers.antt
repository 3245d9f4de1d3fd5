-- `moves_into` meets its contract: the moves are those of the drawing that it lends.
use Rattle.std.proofs.Common.{rules}
use Rattle.cutter.specs.Lists.{lists_lent}
use Rattle.cutter.proofs.moves_into.Goals as goal

pub returns : goal.returns
returns c q h = lists_lent (search rules) (search rules) (c.look_moves.ensures q (rw c.view.ensures.drawing h))
