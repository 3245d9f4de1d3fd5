-- `planar_reading::starts_of` meets its contract: the array begins with the ends of the lists before the next byte, and d neighbours stand before it.
use Rattle.std.specs.Prelude.{◌+◌, ◌≡◌, ◌∷◌, length, drop}
use Rattle.planar_rules.specs.PlanarCode.{neighbours, ends}
use Rattle.planar_reading.specs.Laws.{Filling}
use Rattle.planar_reading.proofs.starts_of.Given as goal

abbrev pub invariant-loop-c : goal.invariant-loop-c
invariant-loop-c l =
    (length l.starts ≡ 257) × (length (neighbours l.lists) ≡ l.d + length (neighbours (drop l.c-index l.lists))) × Filling (0 ∷ ends 0 l.lists) (ends l.d (drop l.c-index l.lists)) l.starts l.v
