-- `printing_move::put_moves` meets its contract: after i turns the lines of the first i moves stand in the page.
use Rattle.std.proofs.Common.{◌∙◌, ◌<◌, ap, length, arith, rules, take_all}
use Rattle.rules.specs.MoveLines.{move_lines}
use Rattle.printing_line.specs.Pages.{printed}
use Rattle.printing_move.specs.Buffers.{told_at, lines_next}
use Rattle.printing_move.proofs.put_moves.Goals as goal

pub loop-i-preserved : goal.loop-i-preserved
loop-i-preserved c =
    let before = c.loop-i.invariant in
    let put = c.put_move.ensures in (
      record { same = put.within.same ∙ before.0.same; size = put.within.size ∙ before.0.size; most = omega (arith, put.within.most, before.0.most) },
      λ ms l h.
          let less : c.loop-i.i < length ms = omega arith in
          let told = told_at ms c.loop-i.i less h in
          lines_next ms c.loop-i.i less (before.1 ms l h) (put.exact _ told.small (c.move_of-m.ensures _ told.kind_is told.numbers_are)),
    )

pub returns : goal.returns
returns c ms l h =
    let all = ap move_lines (take_all c.loop-i.i ms (omega arith)) in
    printed c.new-lines.ensures.at c.new-lines.ensures.bytes (rw all at (c.loop-i.invariant.1 ms l h)) (search rules)
