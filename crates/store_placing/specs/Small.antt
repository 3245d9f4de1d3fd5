-- What the reach tests ask: bounds under which no sum of a test wraps, and entries to test.
use Rattle.std.specs.Prelude.{ℕ, ◌<◌, ◌≤◌, List, length}
use Rattle.store_links.specs.declared.Spot.{Spot}
use Rattle.store_links.specs.Runs.{Within}

-- the numbers of a spot that a reach test adds up
pub record Small (p : Spot) : Type 0 where
  pub dx : p.dx < 4294967296
  pub y : p.y < 4294967296
  pub h : p.h < 4294967296
  pub s1 : p.s1 < 4294967296

-- such a spot, and the entries of a run whose inner points are tested from it
pub record Tested (p : Spot) (es : List ℕ) : Type 0 where
  pub small : Small p
  pub some : 1 < length es
  pub most : length es ≤ 1024
  pub within : Within 1024 es
