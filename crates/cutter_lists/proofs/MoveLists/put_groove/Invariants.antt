-- `cutter_lists::MoveLists::put_groove`: after j turns the first j moves stand in the buffers.
use Rattle.std.proofs.Common.{◌+◌, take}
use Rattle.tool.specs.Checking.{tool_of}
use Rattle.cutter_lines.specs.Grooves.{groove_moves}
use Rattle.cutter_lists.specs.Listing.{PutsIn}
use Rattle.cutter_lists.proofs.MoveLists.put_groove.Given as goal

abbrev pub invariant-loop-j : goal.invariant-loop-j
invariant-loop-j l = PutsIn l.initial.self l.from (take l.j (groove_moves l.by.scale (tool_of l.by.tool) l.g)) l.self (l.from + l.j)
