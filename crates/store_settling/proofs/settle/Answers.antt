-- The two passes are those of the model, and the model is right.
use Rattle.store_settling.specs.Settling.{first_walks, second_hangs, both_settle}
use Rattle.store_settling.proofs.settle.Goals as goal

pub walk-requires : goal.walk-requires
walk-requires c = first_walks c.requires

pub hang-requires : goal.hang-requires
hang-requires c = (c.requires.small, rw c.walk.ensures (second_hangs c.requires))

pub returns : goal.returns
returns c = rw (c.hang.ensures, c.walk.ensures) (both_settle c.requires)
