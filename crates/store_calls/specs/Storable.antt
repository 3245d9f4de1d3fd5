-- What must hold before a call is stored.
use Rattle.std.specs.Prelude.{ℕ, ◌+◌, ◌-◌, ◌<◌, ◌≤◌, List, length}
use Rattle.store_links.specs.declared.Spot.{Spot}
use Rattle.store_links.specs.declared.Counts.{Counts}
use Rattle.store_links.specs.Arrays.{Arrays, at_point, gap_offset}
use Rattle.store_links.specs.Placing.{entry_point, way, inner_count}
use Rattle.store_links.specs.Runs.{Within, Distinct}

-- a line for each of the entries es can be added
pub record Pushable (es : List ℕ) (c : Counts) : Type 0 where
  pub entries : 0 < length es
  pub points : c.k < 1024
  pub lines : c.lines + length es ≤ 3072

-- a new point can be put over the run of the entries es, at the spot p
pub record Storable (a : Arrays) (c : Counts) (es : List ℕ) (p : Spot) : Type 0 where
  pub entries : 1 < length es
  pub within : Within c.k es
  pub distinct : Distinct es
  pub points : c.k < 1024
  pub lines : c.lines + length es ≤ 3072
  pub dx : p.dx ≤ gap_offset
  pub rest : p.rest < 65536
  pub y : p.y < 65536
  pub h : p.h < 65536
  pub near : way a.gap es (inner_count es) + p.s1 < gap_offset
  pub rights : at_point a.drs (entry_point es 0) < 65535
  pub lefts : at_point a.dls (entry_point es (length es - 1)) < 65535
