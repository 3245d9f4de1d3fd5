-- `planar_reading::owners_of` meets its contract: the array begins with the owners before the next byte, which stands in v's list.
use Rattle.std.specs.Prelude.{◌-◌, ◌≤◌, ◌≡◌, true, length, drop}
use Rattle.planar_rules.specs.PlanarCode.{lists?, owners}
use Rattle.planar_reading.specs.Laws.{Filling}
use Rattle.planar_reading.proofs.owners_of.Given as goal

abbrev pub invariant-loop-c : goal.invariant-loop-c
invariant-loop-c l =
    (length l.owners ≡ 1536) × (l.v ≤ l.n) × (lists? l.n (l.n - l.v) (drop l.c-index l.lists) ≡ true) × Filling (owners 0 l.lists) (owners l.v (drop l.c-index l.lists)) l.owners l.d
