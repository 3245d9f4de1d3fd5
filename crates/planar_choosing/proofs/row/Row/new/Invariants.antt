-- `planar_choosing::Row::new` meets its contract: stands has where the first i vertices stand.
use Rattle.planar_choosing.specs.Rows.{Positions}
use Rattle.planar_choosing.proofs.row.Row.new.Given as goal

abbrev pub invariant-loop-i : goal.invariant-loop-i
invariant-loop-i l = Positions l.vertices l.i l.stands
