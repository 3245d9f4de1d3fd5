-- `find`: `before` moves stand before the line at hand, and that is no more than the number.
use Rattle.std.proofs.Common.{◌≡◌, ◌*◌, ◌≤◌, length}
use Rattle.rules.specs.Points.{Drawing as Plan}
use Rattle.rules.specs.Moves.{Tool as WholeTool}
use Rattle.store_laws.specs.Stored.{Is}
use Rattle.cutter.specs.Numbering.{moves_to}
use Rattle.cutter.proofs.find.Given as goal

abbrev pub invariant-loop-line : goal.invariant-loop-line
invariant-loop-line l = record {
  low : l.before ≤ l.number;
  few : l.before ≤ 10 * l.line;
  is : (q : Plan) (t : WholeTool) → Is q l.view.drawing.now → 1 ≤ t.pitch → l.before ≡ length (moves_to q t l.line);
}
