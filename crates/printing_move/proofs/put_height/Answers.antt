-- `printing_move::put_height` meets its contract: one number and the line's end.
use Rattle.pages.specs.Pages.{grown_both}
use Rattle.printing_move.proofs.put_height.Goals as goal

pub returns-clause-exact : goal.returns-clause-exact
returns-clause-exact c a h v = rw (← c.eighths.ensures.is a h v) (grown_both c.put_millimetres.ensures.exact c.text.ensures)
