-- `planar_reading::well_listed` meets its contract: behind the next byte as many lists must stand as are left.
use Rattle.std.proofs.Common.{◌<◌, sym, ◌∙◌, arith, length}
use Rattle.planar_reading.specs.Laws.{lists_over, lists-zero, lists_more, lists-high, lists-done}
use Rattle.planar_reading.proofs.well_listed.Goals as goal
use Rattle.planar_reading.proofs.well_listed.Goals.{then-c-eq0, else-c-eq0}

pub returns-then-left-eq0 : goal.returns-then-left-eq0
returns-then-left-eq0 c =
    let a = c.args in
    sym (c.loop-c.invariant.1 ∙ rw c.if-left-eq0.true (lists_over a.n a.lists.now c.loop-c.c-index (omega arith)))

pub returns-then-n-c : goal.returns-then-n-c
returns-then-n-c c =
    let a = c.args in
    sym (c.loop-c.invariant.1 ∙ lists-high a.n a.lists.now c.loop-c.c-index (omega arith) c.loop-c.left (omega (arith, c.if-left-eq0.false)) c.if-n-c.true)

pub loop-c-preserved : goal.loop-c-preserved
loop-c-preserved c =
    let l = c.loop-c in
    let n = c.args.n in
    let bs = c.args.lists.now in
    let il : l.c-index < length bs = omega arith in
    let some : 0 < l.left = omega (arith, c.if-left-eq0.false) in
    elim c.if-c-eq0.branch [
      | then-c-eq0 w ↦ (omega (arith, w.left-is), l.invariant.1 ∙ lists-zero n bs l.c-index il l.left some w.if-c-eq0.true ∙ sym (rw w.left-is))
      | else-c-eq0 w ↦ let in_net = lists_more n bs l.c-index il l.left some (omega (arith, w.if-c-eq0.false)) (omega (arith, c.if-n-c.false)) in
          (omega (arith, w.left-is), l.invariant.1 ∙ in_net ∙ sym (rw w.left-is))
    ]

pub returns : goal.returns
returns c = sym (c.loop-c.invariant.1 ∙ lists-done c.args.n c.loop-c.left c.args.lists.now c.loop-c.c-index (omega arith))
