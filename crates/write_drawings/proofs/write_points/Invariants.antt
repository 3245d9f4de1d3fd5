-- `write_points`: the records of the points before this one are there.
use Rattle.store_tables.specs.Tables.{ys}
use Rattle.pages.specs.Pages.{Grown}
use Rattle.write_drawings.specs.Lists.{several, point_bytes}
use Rattle.write_drawings.proofs.write_points.Given as goal

abbrev pub invariant-loop-i : goal.invariant-loop-i
invariant-loop-i l = Grown l.initial.page (several (point_bytes l.s l.view.x.now (ys l.view.drawing.now.table.points)) l.i) l.page
