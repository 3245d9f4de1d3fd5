-- `printing_import::finish_list` meets its contract, by the answer.
use Rattle.printing_import.specs.Finishing.{lines_in, finished-lines, finished-line}
use Rattle.printing_import.proofs.finish_list.Goals as goal

pub returns-in-Ok : goal.returns-in-Ok
returns-in-Ok c wanted order before order' s = finished-lines s c.in-Ok.is c.put_vertices.ensures

pub returns-in-Err : goal.returns-in-Err
returns-in-Err c wanted order before order' s = finished-line lines_in s c.in-Err.is (rw (← c.from.ensures) c.put_refusal.ensures)
