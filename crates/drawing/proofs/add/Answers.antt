-- The core's answer and drawing are those of the rules.
use Rattle.rules.specs.Results.{handed_on}
use Rattle.drawing.specs.Adds.{adds, adds-refused}
use Rattle.drawing.proofs.add.Goals as goal

pub returns-in_err-add : goal.returns-in_err-add
returns-in_err-add c =
    rw (handed_on c.from_residual.result _ c.from_residual.ensures.1) (adds-refused c.args.e.now c.requires _ _ (rw c.in_err-add.was at c.add.ensures))

pub returns : goal.returns
returns c = adds c.args.e.now c.requires _ (rw c.in_ok-add.was at c.add.ensures)
