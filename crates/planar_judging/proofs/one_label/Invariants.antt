-- `planar_judging::one_label` meets its contract: the first labels are the first one.
use Rattle.std.specs.Prelude.{length, get_or, eqb}
use Rattle.planar_judging.specs.Laws.{Passed}
use Rattle.planar_judging.proofs.one_label.Given as goal

abbrev pub invariant-loop-b : goal.invariant-loop-b
invariant-loop-b l = Passed (λ k. eqb (get_or l.labels k 0) (get_or l.labels 0 0)) (length l.labels) l.b-index
