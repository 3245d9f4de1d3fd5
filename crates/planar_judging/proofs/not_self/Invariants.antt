-- `planar_judging::not_self` meets its contract: the first i places don't name their own vertex.
use Rattle.std.specs.Prelude.{not, eqb}
use Rattle.planar_reading.specs.Reads.{net_in}
use Rattle.planar_judging.specs.Laws.{Passed}
use Rattle.planar_judging.proofs.not_self.Given as goal

abbrev pub invariant-loop-i : goal.invariant-loop-i
invariant-loop-i l = let f = net_in l.net in Passed (λ k. not (eqb (f.nbr k) (f.own k))) f.D l.i
