-- `planar_reading::count_places` meets its contract: so many neighbours stand before the next byte.
use Rattle.std.specs.Prelude.{◌+◌, ◌≤◌, ◌≡◌, length, drop}
use Rattle.planar_rules.specs.PlanarCode.{neighbours}
use Rattle.planar_reading.proofs.count_places.Given as goal

abbrev pub invariant-loop-c : goal.invariant-loop-c
invariant-loop-c l = (l.places ≤ l.c-index) × (length (neighbours l.lists) ≡ l.places + length (neighbours (drop l.c-index l.lists)))
