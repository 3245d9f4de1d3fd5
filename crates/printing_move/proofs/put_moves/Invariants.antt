-- `printing_move::put_moves`: after i turns the lines of the first i moves stand in the page.
use Rattle.std.proofs.Common.{◌≡◌, ◌*◌, List, length, take}
use Rattle.rules.specs.Moves.{Move}
use Rattle.rules.specs.MoveLines.{move_lines}
use Rattle.pages.specs.Pages.{Grown}
use Rattle.printing_line.specs.Pages.{Within}
use Rattle.printing_move.specs.Lines.{move_most, Held}
use Rattle.printing_move.proofs.put_moves.Given as goal

abbrev pub invariant-loop-i : goal.invariant-loop-i
invariant-loop-i l =
    Within l.initial.lines (move_most * l.i) l.lines × ((ms : List Move) → length ms ≡ l.count → Held ms l.kinds l.numbers → Grown l.initial.lines (move_lines (take l.i ms)) l.lines)
