-- `planar_numbering::gather_run` meets its contract: those from d0 up to `at` stand in entries from e up to s.
use Rattle.planar_reading.specs.Reads.{net_in}
use Rattle.planar_numbering.specs.Gathering.{Gathering}
use Rattle.planar_numbering.proofs.gather_run.Given as goal

abbrev pub invariant-loop-d0 : goal.invariant-loop-d0
invariant-loop-d0 l = Gathering (net_in l.net) l.left l.d0 l.s l.initial.entries l.entries l.at l.e

abbrev pub decreases-loop-d0 : goal.decreases-loop-d0
decreases-loop-d0 l = l.e
