-- `move_count` meets its contract: the refusal, and the count.
use Rattle.rules.specs.Results.{handed_on}
use Rattle.rules.proofs.Dwelling.{has_pitch}
use Rattle.cutter.specs.Setting.{finishes}
use Rattle.cutter.specs.Seen.{count-early, count_made}
use Rattle.cutter.proofs.move_count.Goals as goal

pub returns-in_err-finished : goal.returns-in_err-finished
returns-in_err-finished c q t h is =
    let late = rw c.in_err-finished.was at (finishes c.args.v.drawing.counts c.finished.result c.finished.ensures) in
    rw (handed_on c.from_residual.result _ c.from_residual.ensures.1, late.1) (count-early h t late.0)

pub returns : goal.returns
returns c q t h is = count_made h t (c.count_moves.ensures q t (rw c.view.ensures.drawing h) (has_pitch t is)) (rw c.in_ok-finished.was at (finishes c.args.v.drawing.counts c.finished.result c.finished.ensures))
