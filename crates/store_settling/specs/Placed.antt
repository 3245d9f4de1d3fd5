-- What settling takes and gives.
use Rattle.std.specs.Prelude.{ℕ, suc, ◌+◌, ◌<◌, ◌≤◌, ◌≡◌, List, length, take}
use Rattle.std.proofs.Common.{arith}
use Rattle.rules.specs.Points.{Drawing, x_of, owner_of, w, m}
use Rattle.promise.specs.Sound.{Sound}
use Rattle.store_links.specs.declared.Counts.{Counts}
use Rattle.store_links.specs.Arrays.{Arrays, Stores, at_point, gap_offset}

-- the links, gaps and owners of the `count` points of a drawing: the parts of `Stores` that say where its points lie
pub record Placed (d : Drawing) (a : Arrays) (count : ℕ) : Type 0 where
  pub k : count ≡ d.k
  pub owner : take d.k a.owner ≡ d.owners
  pub link : (i : ℕ) → suc i < m d → at_point a.next (w d i) ≡ w d (suc i)
  pub last : at_point a.next 2 ≡ 0
  pub step : (i : ℕ) → suc i < m d → x_of d (w d (suc i)) ≡ x_of d (w d i) + at_point a.gap (w d (suc i))
  pub hang : (p o : ℕ) → suc p ≤ d.k → owner_of d (suc p) ≡ suc o → x_of d (suc p) + gap_offset ≡ x_of d (suc o) + at_point a.gap (suc p)

-- The arrays that store a drawing have them, for the number of its points.
pub placed_at : {d : Drawing} {a : Arrays} {c : Counts} {count : ℕ} → count ≡ d.k → Stores d a c → Placed d a count
placed_at e s = record { k = e; owner = s.owner; link = s.link; last = s.last; step = s.step; hang = s.hang }

-- what settling asks: some sound drawing has these links, gaps and owners
pub record Settleable (x : List ℕ) (a : Arrays) (k : ℕ) : Type 0 where
  pub d : Drawing
  pub sound : Sound d
  pub placed : Placed d a k
  pub small : k ≤ 1024
  pub long : length x ≡ 1024

-- what it gives: of every such drawing, the x of its points
pub record Settled (x : List ℕ) (a : Arrays) (k : ℕ) : Type 0 where
  pub right : (d : Drawing) → Sound d → Placed d a k → take k x ≡ d.xs
  pub long : length x ≡ 1024

-- The arrays that store a sound drawing can be settled.
pub settleable_of : {d : Drawing} {a : Arrays} {c : Counts} {x : List ℕ} → Stores d a c → Sound d → length x ≡ 1024 → d.k ≤ 1024 → Settleable x a c.k
settleable_of {d} s sound long small = record { d = d; sound = sound; placed = placed_at s.k s; small = omega (arith, s.k); long = long }
