-- What must hold before the words of a new point are stored.
use Rattle.std.specs.Prelude.{ℕ, ◌+◌, ◌<◌, ◌≤◌, List, length}
use Rattle.store_links.specs.declared.Spot.{Spot}
use Rattle.store_links.specs.Arrays.{at_point, gap_offset}
use Rattle.store_links.specs.Placing.{way, inner_count}
use Rattle.store_links.specs.Runs.{Within, Distinct}

-- the inner points of the entries es can be covered by a point at the spot p
pub record Coverable (es gap : List ℕ) (p : Spot) : Type 0 where
  pub entries : 1 < length es
  pub within : Within 1024 es
  pub distinct : Distinct es
  pub dx : p.dx ≤ gap_offset
  pub near : way gap es (inner_count es) + p.s1 < gap_offset

-- point v can be linked in between wl and wr, at the spot p
pub record Linkable (v wl wr : ℕ) (p : Spot) : Type 0 where
  pub new : (0 < v) × (v ≤ 1024)
  pub left : (0 < wl) × (wl ≤ 1024)
  pub right : (0 < wr) × (wr ≤ 1024)
  pub dx : p.dx < 65536
  pub rest : p.rest < 65536
  pub y : p.y < 65536
  pub h : p.h < 65536

-- point v can be given no port, and point w one more
pub record Growable (ports : List ℕ) (v w : ℕ) : Type 0 where
  pub new : (0 < v) × (v ≤ 1024)
  pub old : (0 < w) × (w ≤ 1024)
  pub room : at_point ports w < 65535
