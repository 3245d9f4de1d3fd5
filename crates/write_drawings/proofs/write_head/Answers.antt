-- `write_head`: the header and the records of the points, one behind the other.
use Rattle.std.proofs.Common.{arith, sym, length-take-le}
use Rattle.std.proofs.lemmas.List.{length-map, take-map}
use Rattle.store_tables.specs.declared.Point.{Point}
use Rattle.store_tables.specs.Tables.{arrays_in}
use Rattle.write_drawings.specs.Fitting.{enough, ready, points-ready}
use Rattle.write_drawings.proofs.Written.{head-put}
use Rattle.write_drawings.proofs.write_head.Goals as goal

pub scaled-width-requires : goal.scaled-width-requires
scaled-width-requires c = (ready (enough c.requires.held)).width

pub slice_bounds-largest-end : goal.slice_bounds-largest-end
slice_bounds-largest-end c =
    let d = c.args.view.now.drawing.now in
    let h = c.requires.held in
    sym (length-take-le d.counts.k d.table.points (omega (arith, (ready (enough h)).few, h.finished.holds.sized.ys, length-map d.table.points (λ (p : Point). p.y))))

pub scaled-height-requires : goal.scaled-height-requires
scaled-height-requires c = rw (c.largest.ensures, ← take-map) (ready (enough c.requires.held)).height

pub overflow_cast-header : goal.overflow_cast-header
overflow_cast-header c = let h = c.requires.held.finished.holds in omega (arith, h.stores.n, h.standing.ranged.high)

pub overflow_cast-header-2 : goal.overflow_cast-header-2
overflow_cast-header-2 c = let h = c.requires.held.finished in omega (arith, h.holds.stores.s, h.scale.1)

pub words-requires : goal.words-requires
words-requires c = omega (arith, c.requires.room)

pub write_points-requires : goal.write_points-requires
write_points-requires c = points-ready c.requires.held.finished _ _ (omega (arith, c.words.ensures.at, c.words.ensures.size, c.requires.room))

pub returns : goal.returns
returns c =
    let v = c.args.view.now in
    head-put v.x.now (arrays_in v.drawing.now.table) v.drawing.now.counts c.drawing_mark.ensures c.scaled-width.ensures (rw (← take-map) at c.largest.ensures) c.scaled-height.ensures c.words.ensures c.write_points.ensures
