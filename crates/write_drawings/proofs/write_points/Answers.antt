-- `write_points`: one record more.
use Rattle.std.proofs.Common.{arith, add-one}
use Rattle.store_tables.specs.Tables.{ys}
use Rattle.write_drawings.specs.Lists.{point_bytes}
use Rattle.write_drawings.specs.Stores.{none_put, record_more}
use Rattle.write_drawings.proofs.Written.{points_end, point-put}
use Rattle.write_drawings.proofs.write_points.Goals as goal

pub loop-i-init : goal.loop-i-init
loop-i-init c = none_put _ _ (omega (arith, c.requires.room))

pub words-requires : goal.words-requires
words-requires c =
    let v = c.args.view.now in
    let d = v.drawing.now in
    let before = c.loop-i.invariant in
    omega (arith, c.requires.room, before.size, points_end d.counts.s v.x.now (ys d.table.points) c.loop-i.i before)

pub loop-i-preserved : goal.loop-i-preserved
loop-i-preserved c =
    let v = c.args.view.now in
    let d = v.drawing.now in
    record_more (point_bytes d.counts.s v.x.now (ys d.table.points)) c.loop-i.i c.loop-i.invariant (point-put d.counts.s v.x.now (ys d.table.points) c.loop-i.i c.scaled.ensures (rw (c.point-y.ensures, add-one) at c.scaled-in-loop-i.ensures) c.words.ensures)
