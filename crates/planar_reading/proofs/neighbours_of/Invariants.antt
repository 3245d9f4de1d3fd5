-- `planar_reading::neighbours_of` meets its contract: the array begins with the neighbours before the next byte.
use Rattle.std.specs.Prelude.{◌≡◌, length, drop}
use Rattle.planar_rules.specs.PlanarCode.{neighbours}
use Rattle.planar_reading.specs.Laws.{Filling}
use Rattle.planar_reading.proofs.neighbours_of.Given as goal

abbrev pub invariant-loop-c : goal.invariant-loop-c
invariant-loop-c l = (length l.neighbours ≡ 1536) × Filling (neighbours l.lists) (neighbours (drop l.c-index l.lists)) l.neighbours l.d
