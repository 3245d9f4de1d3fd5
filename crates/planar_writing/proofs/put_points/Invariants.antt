-- `planar_writing::put_points` meets its contract: the first points are written, the others are ahead, in the same page.
use Rattle.std.specs.Prelude.{◌≡◌, length}
use Rattle.planar_writing.proofs.Turns.{Pointing}
use Rattle.planar_writing.proofs.put_points.Given as goal

abbrev pub invariant-loop-count : goal.invariant-loop-count
invariant-loop-count l =
    let first = l.initial.page in
    let p = l.points in
    (l.page.bytes.ghost_name ≡ first.bytes.ghost_name) ×
    Pointing first.bytes.now first.at (length l.by_point) p.counts p.entries p.from l.by_point l.page.bytes.now l.page.at l.from l.count-index
