-- `planar_judging::not_twice` meets its contract: marks are those of the first i places, which name no vertex twice.
use Rattle.planar_reading.specs.Reads.{net_in}
use Rattle.planar_judging.specs.Laws.{Marks}
use Rattle.planar_judging.proofs.not_twice.Given as goal

abbrev pub invariant-loop-i : goal.invariant-loop-i
invariant-loop-i l = Marks (net_in l.net) l.i l.marks
