-- `put_moves` meets its contract: the moves of the lines so far stand in the buffers.
use Rattle.std.proofs.Common.{arith}
use Rattle.tool.specs.Checking.{tool_of}
use Rattle.cutter_lists.specs.Listing.{in_long}
use Rattle.cutter_grooves.specs.Grid.{scale}
use Rattle.cutter.specs.Lists.{lines_all, lines_more, lines-room}
use Rattle.cutter.proofs.put_moves.Goals as goal

pub put_groove-count-requires-clause-all_kinds : goal.put_groove-count-requires-clause-all_kinds
put_groove-count-requires-clause-all_kinds c =
    let w = c.requires.placed.came in
    let p = c.loop-line.invariant w.plan w.is in
    let r = lines-room w.is (tool_of c.args.by.tool) c.loop-line.line p c.loop-line-test.true c.groove_of-groove.result (c.groove_of-groove.ensures.is w.plan w.is) (scale w).0 c.args.by.in_range.some in
    omega (arith, r, (c.requires.room w.plan w.is).0, (in_long p).0)

pub put_groove-count-requires-clause-all_numbers : goal.put_groove-count-requires-clause-all_numbers
put_groove-count-requires-clause-all_numbers c =
    let w = c.requires.placed.came in
    let p = c.loop-line.invariant w.plan w.is in
    let r = lines-room w.is (tool_of c.args.by.tool) c.loop-line.line p c.loop-line-test.true c.groove_of-groove.result (c.groove_of-groove.ensures.is w.plan w.is) (scale w).0 c.args.by.in_range.some in
    omega (arith, r, (c.requires.room w.plan w.is).1, (in_long p).1)

pub loop-line-preserved : goal.loop-line-preserved
loop-line-preserved c q h = lines_more h (tool_of c.args.by.tool) c.loop-line.line (c.loop-line.invariant q h) c.loop-line-test.true c.groove_of-groove.result (c.groove_of-groove.ensures.is q h) (rw c.requires.scaled at c.put_groove-count.ensures)

pub returns : goal.returns
returns c q h = lines_all h (tool_of c.args.by.tool) c.loop-line.line (c.loop-line.invariant q h) c.loop-line-test.false
