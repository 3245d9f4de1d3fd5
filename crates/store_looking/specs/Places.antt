-- The places of points, from the settled x and the heights.
use Rattle.std.specs.Prelude.{Ok, Err, ℕ, pred, ◌-◌, ◌<◌, ◌≤◌, ◌≡◌, refl, true, false, List, get_or, take}
use Rattle.std.proofs.Common.{arith}
use Rattle.rules.specs.declared.Refusal.TheVariants.{NoSuch}
use Rattle.rules.specs.Basics.{between}
use Rattle.rules.specs.Points.{Drawing as Plan, at}
use Rattle.rules.specs.Lookups.{look_point}
use Rattle.rules.specs.Bools.{in_range}
use Rattle.rules.proofs.Lengths.{first_at}
use Rattle.store_links.specs.declared.Counts.{Counts}
use Rattle.store_links.specs.Arrays.{Arrays}
use Rattle.store_links.specs.Opening.{no_points}
use Rattle.store_laws.specs.Adding.{Holds}
use Rattle.store_laws.specs.Stored.{Stored}
use Rattle.store_settling.specs.Placed.{Settleable, Settled, settleable_of, placed_at}
use Rattle.store_tables.specs.declared.Drawing.{Drawing}
use Rattle.store_tables.specs.Tables.{arrays_in}
use Rattle.rules.specs.Refusals.{refusal_at}
use Rattle.answers.specs.Told.{point_seen}

-- d is stored, and x is settled
abbrev pub Looks : Drawing → List ℕ → Type 0
Looks d x = Stored d × Settled x (arrays_in d.table) d.counts.k

-- The arrays of a drawing can be settled, from an array of zeros.
pub settleable : {q : Plan} {a : Arrays} {c : Counts} → Holds q a c → Settleable no_points a c.k
settleable {q} h =
    let small : q.k ≤ 1024 = omega (arith, h.standing.ranged.room, h.standing.ranged.high) in
    settleable_of h.stores h.standing.sound refl small

module _ {q : Plan} {a : Arrays} {c : Counts} {xs : List ℕ} (h : Holds q a c) (s : Settled xs a c.k) where
  -- The settled x are the drawing's.
  pub settled-xs : take q.k xs ≡ q.xs
  settled-xs = rw (← h.stores.k) (s.right q h.standing.sound (placed_at h.stores.k h.stores))

  module _ (p : ℕ) (is : between 1 c.k p ≡ true) where
    -- A number of point p, read from the longer list.
    there : (l : List ℕ) {l' : List ℕ} → take q.k l ≡ l' → get_or l (p - 1) 0 ≡ get_or l' (pred p) 0
    there l e =
        let r = in_range 1 _ p is in
        let i : p - 1 ≡ pred p = omega arith in
        let b : pred p < q.k = omega (arith, h.stores.k) in
        rw i (first_at l _ q.k (pred p) e b)

    -- The place of a point.
    pub point_seen_lem : Ok (at (get_or xs (p - 1) 0) (get_or a.ys (p - 1) 0)) ≡ point_seen (look_point q p)
    point_seen_lem =
        let i : between 1 q.k p ≡ true = rw h.stores.k at is in
        rw (there xs settled-xs, there a.ys h.stores.ys, i)

-- No such point.
pub no_point_lem : {q : Plan} {a : Arrays} {c : Counts} → Holds q a c → (p : ℕ) → between 1 c.k p ≡ false → Err (refusal_at NoSuch 0) ≡ point_seen (look_point q p)
no_point_lem {q} h p b =
    let i : between 1 q.k p ≡ false = rw h.stores.k at b in
    rw i
