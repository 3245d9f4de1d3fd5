-- `planar_reading::count_places` meets its contract: so many neighbours stand before the next byte.
use Rattle.std.proofs.Common.{◌<◌, ap, arith, length}
use Rattle.planar_reading.specs.Laws.{nbr-zero, nbr_more, nbr-done}
use Rattle.planar_reading.proofs.count_places.Goals as goal
use Rattle.planar_reading.proofs.count_places.Goals.{then-c-ne0, else-c-ne0}

pub loop-c-preserved : goal.loop-c-preserved
loop-c-preserved c =
    let l = c.loop-c in
    let bs = c.args.lists.now in
    let il : l.c-index < length bs = omega arith in
    elim c.if-c-ne0.branch [
      | then-c-ne0 w ↦ (omega arith, omega (arith, l.invariant.1, ap length (nbr_more bs l.c-index il (omega (arith, w.if-c-ne0.true)))))
      | else-c-ne0 w ↦ (omega arith, omega (arith, l.invariant.1, ap length (nbr-zero bs l.c-index il (omega (arith, w.if-c-ne0.false)))))
    ]

pub returns : goal.returns
returns c = omega (arith, c.loop-c.invariant.1, ap length (nbr-done c.args.lists.now c.loop-c.c-index (omega arith)))
