-- `file` meets its contract.
use Rattle.panel_doors.specs.Exported.{told-drawn, told-refused}
use Rattle.panel_doors.proofs.file.Goals as goal

pub returns-in-Ok : goal.returns-in-Ok
returns-in-Ok g c = let d = c.in-Ok.ensures.drew in told-drawn _ d.0 d.1 d.2 c.drawing_file-written.ensures c.tell_written.ensures.0 c.tell_written.ensures.1

pub returns : goal.returns
returns g c = let d = c.in-Err.ensures.drew in told-refused _ d.0 _ d.1 d.2 c.tell_written-in-Err.ensures.0 (rw (← c.short.ensures) c.tell_written-in-Err.ensures.1)
