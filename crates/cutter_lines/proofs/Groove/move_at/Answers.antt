-- `Groove::move_at` meets its contract.
use Rattle.cutter_lines.proofs.Made.{made}
use Rattle.cutter_lines.proofs.Groove.move_at.Goals as goal

pub returns : goal.returns
returns c = made c.args.by.scaled c.args.by.in_range c.requires.on_grid c.args.number c.requires.there c.moves_each.ensures.value c.step.ensures c.step_move.ensures
