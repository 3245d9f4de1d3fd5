-- `planar_choosing::choose` meets its contract: no vertex below v may come off.
use Rattle.std.specs.Prelude.{◌-◌, ◌≡◌}
use Rattle.rules.specs.Basics.{lowest}
use Rattle.planar_rules.specs.PlanarCode.{open?}
use Rattle.planar_reading.specs.Reads.{net_in}
use Rattle.planar_choosing.proofs.choose.Given as goal

abbrev pub invariant-loop-v : goal.invariant-loop-v
invariant-loop-v l = let f = net_in l.net in lowest (open? f l.boundary) f.n 0 ≡ lowest (open? f l.boundary) (f.n - l.v) l.v
