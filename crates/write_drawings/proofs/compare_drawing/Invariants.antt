-- `compare_drawing`: the header, the points and the lines before this part are there.
use Rattle.std.specs.Prelude.{◌-◌}
use Rattle.store_tables.specs.Tables.{arrays_in}
use Rattle.write_drawings.proofs.Compared.{LinesPassed}
use Rattle.write_drawings.proofs.compare_drawing.Given as goal

abbrev pub invariant-loop-from : goal.invariant-loop-from
invariant-loop-from l =
    let d = l.view.drawing.now in
    LinesPassed l.view.x.now (arrays_in d.table) d.counts l.file l.from l.at

abbrev pub decreases-loop-from : goal.decreases-loop-from
decreases-loop-from l = l.lines - l.from
