-- What the stages of storing make together.
use Rattle.std.specs.Prelude.{ℕ, suc, ◌+◌, ◌-◌, ◌≡◌, List, length}
use Rattle.std.proofs.Common.{add-one}
use Rattle.rules.specs.Styles.{taken}
use Rattle.store_links.specs.declared.Spot.{Spot}
use Rattle.store_links.specs.declared.Counts.{Counts}
use Rattle.store_links.specs.Arrays.{Arrays, at_point}
use Rattle.store_links.specs.Placing.{entry_point, inner_count}
use Rattle.store_links.specs.Storing.{filled, new_line, with_point}
use Rattle.store_points.specs.Stages.{covered, linked, ported}

-- The new point is linked in over the run, gets its ports, and then its lines: that is `with_point`. rights and lefts are the indexes of the new ports.
pub whole : (a : Arrays) (c : Counts) (es : List ℕ) (p : Spot) (from : ℕ) {wl wr rights lefts : ℕ} → wl ≡ entry_point es 0 → wr ≡ entry_point es (length es - 1) →
    rights ≡ taken c.style (at_point a.drs wl) → lefts ≡ taken c.style (at_point a.dls wr) →
    record (ported c.style (linked (covered a es p (c.k + 1) (inner_count es)) (c.k + 1) wl wr p) (c.k + 1) wl wr) { lines = filled (new_line c.style (suc c.k) rights lefts from es) a.lines c.lines (length es) } ≡ with_point a c es p from
unfolding with_point
whole a c es p from left right hr hl = rw (hr, hl, left, right, add-one)
