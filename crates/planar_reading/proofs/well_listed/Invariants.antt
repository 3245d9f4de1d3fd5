-- `planar_reading::well_listed` meets its contract: behind the next byte as many lists must stand as are left.
use Rattle.std.specs.Prelude.{◌≤◌, ◌≡◌, drop}
use Rattle.planar_rules.specs.PlanarCode.{lists?}
use Rattle.planar_reading.proofs.well_listed.Given as goal

abbrev pub invariant-loop-c : goal.invariant-loop-c
invariant-loop-c l = (l.left ≤ l.n) × (lists? l.n l.n l.lists ≡ lists? l.n l.left (drop l.c-index l.lists))
