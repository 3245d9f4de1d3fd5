-- `planar_numbering::count_down` meets its contract: the points with index from k on are numbered, and the rules number the others from there.
use Rattle.std.specs.Prelude.{◌-◌}
use Rattle.planar_reading.specs.Reads.{net_in}
use Rattle.planar_numbering.specs.Numbered.{CountingDown}
use Rattle.planar_numbering.proofs.count_down.Given as goal

abbrev pub invariant-loop-k : goal.invariant-loop-k
invariant-loop-k l = CountingDown (net_in l.net) l.boundary (l.k - 1) l.points.vertices l.points.counts l.points.entries l.points.from
