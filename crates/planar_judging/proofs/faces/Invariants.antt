-- `planar_judging::faces` meets its contract: from each of the first i places three sides lead back to it.
use Rattle.std.specs.Prelude.{eqb}
use Rattle.planar_rules.specs.PlanarCode.{side}
use Rattle.planar_reading.specs.Reads.{net_in}
use Rattle.planar_judging.specs.Laws.{Passed}
use Rattle.planar_judging.proofs.faces.Given as goal

abbrev pub invariant-loop-i : goal.invariant-loop-i
invariant-loop-i l = let f = net_in l.net in Passed (λ k. eqb (side f (side f (side f k))) k) f.D l.i
