-- `planar_reading::neighbours_of` meets its contract: the array begins with the neighbours before the next byte.
use Rattle.std.proofs.Common.{◌<◌, refl, ◌∙◌, arith, length, length-set}
use Rattle.planar_reading.specs.Laws.{nbr-zero, nbr_more, nbr-done, fill_begin, fill_one, fill_next, fill_same, fill_end}
use Rattle.planar_reading.proofs.neighbours_of.Goals as goal
use Rattle.planar_reading.proofs.neighbours_of.Goals.{then-c-ne0, else-c-ne0}

pub loop-c-init : goal.loop-c-init
loop-c-init c = (refl, fill_begin _ 1536)

pub bounds-neighbours-d : goal.bounds-neighbours-d
bounds-neighbours-d c =
    let l = c.loop-c in
    let one = nbr_more c.args.lists.now l.c-index (omega arith) (omega (arith, c.if-c-ne0.true)) in
    omega (arith, fill_one l.invariant.1 one (omega (arith, c.requires, l.invariant.0)), l.invariant.0)

pub loop-c-preserved : goal.loop-c-preserved
loop-c-preserved c =
    let l = c.loop-c in
    let bs = c.args.lists.now in
    let il : l.c-index < length bs = omega arith in
    elim c.if-c-ne0.branch [
      | then-c-ne0 w ↦ rw (w.neighbours-is, w.d-is) (
        length-set l.neighbours l.d _ ∙ l.invariant.0,
        fill_next l.invariant.1 (nbr_more bs l.c-index il (omega (arith, w.if-c-ne0.true))) (omega (arith, c.requires, l.invariant.0)),
      )
      | else-c-ne0 w ↦ rw (w.neighbours-is, w.d-is) (l.invariant.0, fill_same l.invariant.1 (nbr-zero bs l.c-index il (omega (arith, w.if-c-ne0.false))))
    ]

pub returns : goal.returns
returns c = fill_end c.loop-c.invariant.1 (nbr-done c.args.lists.now c.loop-c.c-index (omega arith))
