-- `largest`: `top` is the largest height of the points before this one.
use Rattle.std.specs.Prelude.{◌≡◌, take}
use Rattle.rules.specs.DrawingFile.{highest}
use Rattle.store_tables.specs.Tables.{ys}
use Rattle.write_drawings.proofs.largest.Given as goal

abbrev pub invariant-loop-p : goal.invariant-loop-p
invariant-loop-p l = l.top ≡ highest (take l.p-index (ys l.points))
