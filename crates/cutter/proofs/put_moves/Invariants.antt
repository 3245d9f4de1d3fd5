-- `put_moves`: the moves of the lines so far stand in the buffers.
use Rattle.rules.specs.Points.{Drawing as Plan}
use Rattle.store_laws.specs.Stored.{Is}
use Rattle.tool.specs.Checking.{tool_of}
use Rattle.cutter_lists.specs.Listing.{PutsIn}
use Rattle.cutter.specs.Numbering.{moves_to}
use Rattle.cutter.proofs.put_moves.Given as goal

abbrev pub invariant-loop-line : goal.invariant-loop-line
invariant-loop-line l = (q : Plan) → Is q l.view.drawing.now → PutsIn l.initial.lists 0 (moves_to q (tool_of l.by.tool) l.line) l.lists l.count
