-- `planar_choosing::free` meets its contract: none of the first lines is a chord.
use Rattle.std.specs.Prelude.{length, get_or}
use Rattle.planar_reading.specs.Reads.{list_in}
use Rattle.planar_judging.specs.Laws.{Passed}
use Rattle.planar_choosing.specs.Free.{no_chord?}
use Rattle.planar_choosing.proofs.free.Given as goal

abbrev pub invariant-loop-u : goal.invariant-loop-u
invariant-loop-u l =
    let list = list_in l.net l.v in
    Passed (λ k. no_chord? l.boundary l.t (get_or list k 0)) (length list) l.u-index
