-- `planar_judging::joined` meets its contract: the labels are those that the rules give after i lines.
use Rattle.std.specs.Prelude.{◌≡◌, length}
use Rattle.planar_reading.specs.Reads.{net_in}
use Rattle.planar_judging.specs.Laws.{Labelled}
use Rattle.planar_judging.proofs.joined.Given as goal

abbrev pub invariant-loop-i : goal.invariant-loop-i
invariant-loop-i l = (length l.labels ≡ l.net.n) × Labelled (net_in l.net) l.i l.labels
