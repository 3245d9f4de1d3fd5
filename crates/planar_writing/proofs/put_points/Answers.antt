-- `planar_writing::put_points` meets its contract: the first points are written, the others are ahead.
use Rattle.std.proofs.Common.{◌+◌, ◌-◌, ◌≡◌, ◌∙◌, get_or, length-take-le, arith, subst}
use Rattle.planar_writing.specs.Words.{point_words}
use Rattle.words.specs.Writing.{Pasted}
use Rattle.pages.specs.Pages.{pasted, pasted_grown}
use Rattle.planar_writing.proofs.Turns.{turn_of, entries_at, length-entries, pointing_fits, pointing_room, pointing_more, pointed}
use Rattle.planar_writing.proofs.put_points.Goals as goal

pub slice_bounds-put_point-end : goal.slice_bounds-put_point-end
slice_bounds-put_point-end c =
    let turn = turn_of c.args.points.now.counts c.len.ensures.count (omega (arith, c.len.ensures.few)) c.loop-count-test.true c.from.ensures in
    omega (arith, turn.1, pointing_fits c.loop-count.invariant.1 turn.0, c.args.points.now.within)

pub put_point-requires : goal.put_point-requires
put_point-requires c =
    let h = c.loop-count.invariant.1 in
    let turn = turn_of c.args.points.now.counts c.len.ensures.count (omega (arith, c.len.ensures.few)) c.loop-count-test.true c.from.ensures in
    let e : c.loop-count.from + c.from.result - c.loop-count.from ≡ get_or c.args.points.now.counts c.loop-count.count-index 0 = omega (arith, turn.1) in
    let size = length-entries c.args.points.now.entries c.loop-count.from (get_or c.args.points.now.counts c.loop-count.count-index 0) (pointing_fits h turn.0) in
    rw e (omega (arith, size), omega (arith, size, pointing_room h turn.0 c.requires.room))

pub loop-count-preserved : goal.loop-count-preserved
loop-count-preserved c =
    let e : c.loop-count.from + c.from.result - c.loop-count.from ≡ c.from.result = omega arith in
    let turn = turn_of c.args.points.now.counts c.len.ensures.count (omega (arith, c.len.ensures.few)) c.loop-count-test.true c.from.ensures in
    let point = c.put_point.ensures in (
      point.same ∙ c.loop-count.invariant.0,
      pointing_more c.loop-count.invariant.1 turn.0 turn.1
          (subst (λ k. Pasted c.loop-count.page.bytes.now c.loop-count.page.at (point_words c.args.by_point.now (entries_at c.args.points.now.entries c.loop-count.from k)) c.put_point.new.page.bytes.now c.put_point.new.page.at) e (pasted _ point)),
    )

pub returns : goal.returns
returns c = pasted_grown _ c.loop-count.invariant.0 c.requires.room (pointed c.loop-count.invariant.1 (omega (arith, c.loop-count-test.false, length-take-le c.len.result c.args.points.now.counts (omega (arith, c.len.ensures.few)), c.len.ensures.count)))
