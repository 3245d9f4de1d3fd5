-- A line's bend, and why it does not matter: along a line x - y, x + y and y go one way only.
use Rattle.std.specs.Prelude.{ℕ, ◌+◌, ◌-◌, ◌<◌, ◌≤◌, ◌≡◌, refl}
use Rattle.std.proofs.Common.{arith}
use Rattle.std.proofs.Math.Decide.{dec_le}
use Rattle.rules.specs.declared.Place.{Place}
use Rattle.plane.specs.Apart.{Fun, up, dn, Lt, Le, fa, fy}
use Rattle.net.specs.Side.{Side, rt, lf}
use Rattle.net.specs.Net.{Net, BendKind, side, middle, flat}
use Rattle.net.specs.Inv.{Bent, port, within, plain, Slope, Reach, Inv}

abbrev pub pt : Net → ℕ → Place
pt g p = record { x = g.x p; y = g.y p }

-- the bend of a line from p to q
abbrev pub turn : Net → ℕ → ℕ → BendKind → Place
turn g p q (side rt j) = record { x = g.x p + (g.d rt p + 1); y = g.y p + j }
turn g p q (side lf j) = record { x = g.x p - (g.d lf p + 1); y = g.y p + j }
turn g p q (middle i) = record { x = g.x q + i - g.h q; y = g.y q - g.h q }
turn g p q flat = pt g p

-- the three places of a line
pub data Spot : Type 0 where
  start bend end : Spot

abbrev pub places : Net → ℕ → ℕ → BendKind → Spot → Place
places g p q κ start = pt g p
places g p q κ bend = turn g p q κ
places g p q κ end = pt g q

abbrev pub spot : Net → ℕ → Spot → Place
spot g e = places g (g.u e) (g.v e) (g.kind e)

-- three ways: right by x - y, left by x + y, up
pub data Way : Type 0 where
  to : Side → Way
  high : Way

abbrev fl : Fun
fl = record { au = 0; bu = 0; av = 1; bv = 1 }

abbrev pub fun : Way → Fun
fun (to rt) = fa
fun (to lf) = fl
fun high = fy

-- b lies between p and q
pub data Between (f : Fun) (p b q : Place) : Type 0 where
  there : Le f p b → Le f b q → Between f p b q
  back : Le f b p → Le f q b → Between f p b q

pub between-lt : (f : Fun) (p b q z : Place) → Between f p b q → Lt f p z → Lt f q z → Lt f b z
between-lt f p b q z (there h k) c d = omega arith
between-lt f p b q z (back h k) c d = omega arith

pub between_gt : (f : Fun) (p b q z : Place) → Between f p b q → Lt f z p → Lt f z q → Lt f z b
between_gt f p b q z (there h k) c d = omega arith
between_gt f p b q z (back h k) c d = omega arith

between-self : (f : Fun) (p q : Place) → Between f p p q
between-self f p q =
    elim (dec_le (up f p + dn f q) (up f q + dn f p)) [
      | yes h ↦ there (omega arith) h
      | no h ↦ back (omega arith) (omega arith)
    ]

module _ {g : Net} (n : Inv g) where
  -- by the kind of a line
  side-between : (s : Side) (p q j : ℕ) → j ≤ g.d s p → Slope s g p q j → (w : Way) → Between (fun w) (pt g p) (turn g p q (side s j)) (pt g q)
  side-between rt p q j b f (to rt) = there (omega arith) (omega arith)
  side-between rt p q j b f (to lf) = back (omega arith) (omega arith)
  side-between rt p q j b f high = there (omega arith) (omega arith)
  side-between lf p q j b f (to rt) = back (omega arith) (omega arith)
  side-between lf p q j b f (to lf) = there (omega arith) (omega arith)
  side-between lf p q j b f high = there (omega arith) (omega arith)

  mid-between : (p q i : ℕ) → g.y q ≤ g.x q → Reach g p q i → (w : Way) → Between (fun w) (pt g p) (turn g p q (middle i)) (pt g q)
  mid-between p q i b f (to rt) = back (omega arith) (omega arith)
  mid-between p q i b f (to lf) = back (omega arith) (omega arith)
  mid-between p q i b f high = there (omega arith) (omega arith)

  kind-between : (e : ℕ) → e < g.L → (κ : BendKind) → g.kind e ≡ κ → Bent g (g.u e) (g.v e) κ → (w : Way) →
      Between (fun w) (pt g (g.u e)) (turn g (g.u e) (g.v e) κ) (pt g (g.v e))
  kind-between e el (side s j) q (port f b c) w = side-between s (g.u e) (g.v e) j c (n.slopes.slope s j e el q) w
  kind-between e el (middle i) q (within c b b') w =
      mid-between (g.u e) (g.v e) i (n.core.points.frame (g.v e) (n.core.lines.ends e el).1) (n.slopes.reach i e el q) w
  kind-between e el flat q (plain f c) w = between-self (fun w) (pt g (g.u e)) (pt g (g.v e))

  -- on the whole line each way has its least and its greatest value at the ends
  pub bend-between : (e : ℕ) → e < g.L → (w : Way) → Between (fun w) (spot g e start) (spot g e bend) (spot g e end)
  bend-between e el = kind-between e el (g.kind e) refl (n.core.lines.fits e el)

  pub all_lt : (e : ℕ) → e < g.L → (w : Way) (z : Place) → Lt (fun w) (spot g e start) z → Lt (fun w) (spot g e end) z → (i : Spot) → Lt (fun w) (spot g e i) z
  all_lt e el w z b c start = b
  all_lt e el w z b c bend = between-lt (fun w) _ _ _ z (bend-between e el w) b c
  all_lt e el w z b c end = c

  pub all_gt : (e : ℕ) → e < g.L → (w : Way) (z : Place) → Lt (fun w) z (spot g e start) → Lt (fun w) z (spot g e end) → (i : Spot) → Lt (fun w) z (spot g e i)
  all_gt e el w z b c start = b
  all_gt e el w z b c bend = between_gt (fun w) _ _ _ z (bend-between e el w) b c
  all_gt e el w z b c end = c
