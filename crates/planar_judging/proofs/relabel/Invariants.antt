-- `planar_judging::relabel` meets its contract: of the first labels, those that had label a have b.
use Rattle.planar_judging.specs.Laws.{Relabelled}
use Rattle.planar_judging.proofs.relabel.Given as goal

abbrev pub invariant-loop-label : goal.invariant-loop-label
invariant-loop-label l = Relabelled l.label-index l.a l.b l.fn.labels l.labels
