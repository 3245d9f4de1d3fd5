-- `planar_judging::one_label` meets its contract: the first labels are the first one.
use Rattle.std.proofs.Common.{arith, eq-eqb, ne_eqb}
use Rattle.planar_judging.specs.Laws.{passed_none, passed_more, passed_stop}
use Rattle.planar_judging.proofs.one_label.Goals as goal

pub loop-b-init : goal.loop-b-init
loop-b-init c = passed_none

pub returns-then-b-labels : goal.returns-then-b-labels
returns-then-b-labels c = passed_stop c.loop-b.invariant (omega arith) (ne_eqb _ _ c.if-b-labels.true)

pub loop-b-preserved : goal.loop-b-preserved
loop-b-preserved c = passed_more c.loop-b.invariant (omega arith) (eq-eqb _ _ c.if-b-labels.false)
