-- One turn of each loop over the entries of a run, on lists: entries up to j are passed, entry j + 1 is read. Assumes nothing.
use Rattle.std.specs.Prelude.{ℕ, suc, ◌+◌, ◌-◌, ◌<◌, ◌≡◌, true, false, ◌||◌, List}
use Rattle.std.proofs.Common.{add-one, arith}
use Rattle.rules.specs.Adding.{reaches}
use Rattle.store_links.specs.declared.Spot.{Spot}
use Rattle.store_links.specs.Arrays.{Arrays}
use Rattle.store_links.specs.Placing.{entry_point, way, port_reaches, change_from, all_reach_from}
use Rattle.store_tables.specs.declared.Point.{Point}
use Rattle.store_tables.specs.Columns.{point_at}

-- a turn: the point v of entry j + 1 is read from the arrays a, with its gap g and its height y, and entry j lies `far` from wl
module _ (p : Spot) (a : Arrays) (es : List ℕ) (j far g y : ℕ) (v : Point) (hv : v ≡ point_at a (entry_point es (j + 1))) (hg : g ≡ v.gap) (hf : far ≡ way a.gap es j + p.s1) where
  -- the way grows by the gap
  pub along : far + g ≡ way a.gap es (j + 1) + p.s1
  along = rw (hg, hf, hv, add-one) (omega arith)

  module _ (hy : y ≡ v.y) where
    -- the tests on that point are the definitions'
    pub tested : (port : ℕ) → reaches p.dx p.y p.h port (far + g) y ≡ port_reaches p a.gap a.ys es port (j + 1)
    tested port = rw (along, hy, hv)

    pub tested-either : (reaches p.dx p.y p.h (j + 1) (far + g) y || reaches p.dx p.y p.h (suc (j + 1)) (far + g) y) ≡ (port_reaches p a.gap a.ys es (j + 1) (j + 1) || port_reaches p a.gap a.ys es (suc (j + 1)) (j + 1))
    tested-either = rw (tested (j + 1), tested (suc (j + 1)))

-- what is left of each definition after the test
module _ (p : Spot) (gap ys es : List ℕ) (n j : ℕ) (h : j < n) where
  less : n - j ≡ suc (n - suc j)
  less = omega arith

  pub change_more : port_reaches p gap ys es (j + 1) (j + 1) ≡ true → change_from p gap ys es (suc j) (n - j) ≡ change_from p gap ys es (suc (j + 1)) (n - (j + 1))
  change_more t = rw (less, add-one, rw add-one at t)

  pub change_stop : port_reaches p gap ys es (j + 1) (j + 1) ≡ false → change_from p gap ys es (suc j) (n - j) ≡ j + 1
  change_stop t = rw (less, add-one, rw add-one at t)

  pub all_more : (port_reaches p gap ys es (j + 1) (j + 1) || port_reaches p gap ys es (suc (j + 1)) (j + 1)) ≡ true → all_reach_from p gap ys es (suc j) (n - j) ≡ all_reach_from p gap ys es (suc (j + 1)) (n - (j + 1))
  all_more t = rw (less, add-one, rw add-one at t)

  pub all_stop : (port_reaches p gap ys es (j + 1) (j + 1) || port_reaches p gap ys es (suc (j + 1)) (j + 1)) ≡ false → all_reach_from p gap ys es (suc j) (n - j) ≡ false
  all_stop t = rw (less, rw add-one at t)
