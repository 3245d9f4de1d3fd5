-- `put_points`: one point more.
use Rattle.std.proofs.Common.{refl, ◌∙◌, ◌+◌, ◌≤◌, length, arith}
use Rattle.pages.specs.Pages.{pasted, pasted_grown}
use Rattle.write_orders.proofs.Turns.{pointing_start, length-part, part_low, pointing_lines, pointing_room, pointing_more, pointed}
use Rattle.write_orders.proofs.put_points.Goals as goal

pub loop-p-init : goal.loop-p-init
loop-p-init c = (refl, pointing_start _ _ _ _ _)

pub overflow_add-from : goal.overflow_add-from
overflow_add-from c = omega (arith, pointing_lines c.loop-p.invariant.1 c.loop-p-test.true (omega arith) c.count_lines-count.ensures)

pub slice_bounds-put_point-end : goal.slice_bounds-put_point-end
slice_bounds-put_point-end c =
    let l = pointing_lines c.loop-p.invariant.1 c.loop-p-test.true (omega arith) c.count_lines-count.ensures in
    let within : c.loop-p.from + c.count_lines-count.result ≤ 3072 = omega arith in
    within

pub put_point-requires : goal.put_point-requires
put_point-requires c =
    let long : c.args.all ≤ length c.args.lines.now = omega arith in
    let l = pointing_lines c.loop-p.invariant.1 c.loop-p-test.true long c.count_lines-count.ensures in
    let p = length-part c.args.lines.now c.loop-p.from c.count_lines-count.result (omega arith) in
    (omega arith, omega (arith, pointing_room c.loop-p.invariant.1 c.loop-p-test.true long c.count_lines-count.ensures c.requires.3), part_low c.args.lines.now c.loop-p.from c.count_lines-count.result c.requires.2 l long)

pub loop-p-preserved : goal.loop-p-preserved
loop-p-preserved c =
    let point = c.put_point.ensures in
    (point.same ∙ c.loop-p.invariant.0, pointing_more c.loop-p.invariant.1 c.loop-p-test.true (omega arith) c.count_lines-count.ensures (pasted _ point))

pub returns : goal.returns
returns c = pasted_grown _ c.loop-p.invariant.0 c.requires.3 (pointed c.loop-p.invariant.1 c.loop-p-test.false)

pub returns-2 : goal.returns-2
returns-2 c =
    let point = c.put_point.ensures in
    pasted_grown _ (point.same ∙ c.loop-p.invariant.0) c.requires.3
    (pointed (pointing_more c.loop-p.invariant.1 c.loop-p-test.true (omega arith) c.count_lines-count.ensures (pasted _ point)) (omega arith))
