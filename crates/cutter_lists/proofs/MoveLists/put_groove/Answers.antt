-- `cutter_lists::MoveLists::put_groove` meets its contract.
use Rattle.std.proofs.Common.{◌≡◌, arith}
use Rattle.tool.specs.Checking.{tool_of}
use Rattle.cutter_lines.specs.Grooves.{groove_moves}
use Rattle.cutter_lines.specs.Laws.{total-count}
use Rattle.cutter_lists.specs.Listing.{in_long, in_next, in_all}
use Rattle.cutter_lists.proofs.MoveLists.put_groove.Goals as goal

pub put_move-requires-clause-a_kind : goal.put_move-requires-clause-a_kind
put_move-requires-clause-a_kind c = omega (arith, c.requires.all_kinds, c.loop-j-test.true, c.move_total-total.ensures.value, (in_long c.loop-j.invariant).0)

pub put_move-requires-clause-two_numbers : goal.put_move-requires-clause-two_numbers
put_move-requires-clause-two_numbers c = omega (arith, c.requires.all_numbers, c.loop-j-test.true, c.move_total-total.ensures.value, (in_long c.loop-j.invariant).1)

pub loop-j-preserved : goal.loop-j-preserved
loop-j-preserved c =
    let by = c.args.by in
    let n = total-count by.scale (tool_of by.tool) c.args.g by.scaled.0 by.in_range.some in
    in_next (groove_moves by.scale (tool_of by.tool) c.args.g) c.loop-j.j c.move_at.result (omega (arith, n, c.loop-j-test.true, c.move_total-total.ensures.value)) c.loop-j.invariant c.move_at.ensures c.put_move.ensures

pub returns : goal.returns
returns c =
    let by = c.args.by in
    let n = total-count by.scale (tool_of by.tool) c.args.g by.scaled.0 by.in_range.some in
    let all : c.move_total-total.result ≡ c.loop-j.j = omega (arith, c.loop-j-test.false, c.loop-j.auto.j-end) in
    rw all (in_all (groove_moves by.scale (tool_of by.tool) c.args.g) c.loop-j.j (omega (arith, n, c.move_total-total.ensures.value)) c.loop-j.invariant)
