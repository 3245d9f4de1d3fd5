-- `printing_listed::finish` meets its contract, by what is listed.
use Rattle.printing_listed.specs.Finishing.{finished-moves, finished-line}
use Rattle.printing_listed.proofs.finish.Goals as goal

pub returns-in-Ok : goal.returns-in-Ok
returns-in-Ok c wanted shown = finished-moves wanted shown c.in-Ok.is c.put_moves.ensures

pub returns-in-Err : goal.returns-in-Err
returns-in-Err c wanted shown = finished-line wanted shown c.in-Err.is (rw (← c.from.ensures) c.put_refusal.ensures)
