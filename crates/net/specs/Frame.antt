-- 9 for points and bends: between the diagonals from the two lowest corners, so x is at most W and y at most W / 2 - 1.
use Rattle.std.specs.Prelude.{ℕ, suc, ◌+◌, ◌*◌, ◌-◌, ◌<◌, ◌≤◌, ◌≡◌, ◌≢◌}
use Rattle.std.proofs.Common.{arith}
use Rattle.std.proofs.Math.Decide.{ℕ_discrete}
use Rattle.rules.specs.declared.Place.{Place}
use Rattle.rules.specs.declared.Style.{Style}
use Rattle.rules.specs.declared.Style.TheVariants.{OneBend}
use Rattle.rules.specs.Styles.{inset}
use Rattle.net.specs.Side.{Side, rt, lf, op, at}
use Rattle.net.specs.Net.{Net, side, Next, beyond_a, beyond_b}
use Rattle.net.specs.Inv.{Points, Corners, Inv, Border, Slope}
use Rattle.net.specs.Bend.{pt, Spot, start, bend, end, spot, Way, to, high, fun, Between, there, back, bend-between}

pub record Inside (W : ℕ) (p : Place) : Type 0 where
  pub a : p.y ≤ p.x
  pub b : p.x + p.y ≤ W
  pub y : 2 * p.y + 2 ≤ W

-- p and q are on one rising diagonal, or on one falling one
pub data Level (p q : Place) : Type 0 where
  up : p.x + q.y ≡ q.x + p.y → Level p q
  down : p.x + p.y ≡ q.x + q.y → Level p q

module _ {τ : Style} {g : Net} (h : Points τ g) (k : Corners τ g) where
  -- the last boundary index, at which point 1 stands
  m1 : suc (g.m - 1) ≡ g.m
  m1 = omega (arith, k.size)

  pub left_of_lem : (p : ℕ) → p < g.k → p ≢ 1 → g.x p + g.y p + inset τ ≤ g.x 1
  left_of_lem p pk d =
      let q = k.last (g.m - 1) m1 in
      omega (
        arith,
        beyond_b (rw q at (h.walls lf (g.m - 1) p (omega (arith, k.size)) pk (rw q d) (omega (arith, h.cols p pk)))),
        k.origin.2,
      )

  pub right_of_lem : (p : ℕ) → p < g.k → p ≢ 0 → g.y p + inset τ ≤ g.x p
  right_of_lem p pk d =
      let q = k.first in
      omega (arith, beyond_a (rw q at (h.walls rt 0 p (omega (arith, k.size)) pk (rw q d) (omega arith))), k.origin.0, k.origin.1)

module _ {g : Net} (n : Inv g) (k : Border g) where
  pub point_in_lem : (p : ℕ) → p < g.k → Inside (g.x 1) (pt g p)
  point_in_lem p pk =
      let o = n.core.corners.origin in
      let w = k.least in
      elim (ℕ_discrete p 0) [
        | yes e ↦ rw e (record { a = omega arith; b = omega arith; y = omega arith })
        | no d ↦ elim (ℕ_discrete p 1) [
          | yes e ↦ rw e (record { a = omega arith; b = omega arith; y = omega arith })
          | no d' ↦ let l = left_of_lem n.core.points n.core.corners p pk d' in let r = right_of_lem n.core.points n.core.corners p pk d in record { a = omega arith; b = omega arith; y = omega arith }
        ]
      ]

  between_in : (p b q : Place) → Inside (g.x 1) p → Inside (g.x 1) q → ((w : Way) → Between (fun w) p b q) → Inside (g.x 1) b
  between_in p b q i j f = record { a = ra (f (to rt)); b = rb (f (to lf)); y = ry (f high) }
    where
      ra : Between (fun (to rt)) p b q → b.y ≤ b.x
      ra (there h h') = omega arith
      ra (back h h') = omega arith

      rb : Between (fun (to lf)) p b q → b.x + b.y ≤ g.x 1
      rb (there h h') = omega arith
      rb (back h h') = omega arith

      ry : Between (fun high) p b q → 2 * b.y + 2 ≤ g.x 1
      ry (there h h') = omega arith
      ry (back h h') = omega arith

  pub spot_in : (e : ℕ) → e < g.L → (i : Spot) → Inside (g.x 1) (spot g e i)
  spot_in e el start = point_in_lem (g.u e) (n.core.lines.ends e el).0
  spot_in e el bend = between_in (spot g e start) (spot g e bend) (spot g e end) (point_in_lem (g.u e) (n.core.lines.ends e el).0) (point_in_lem (g.v e) (n.core.lines.ends e el).1) (bend-between n e el)
  spot_in e el end = point_in_lem (g.v e) (n.core.lines.ends e el).1

  -- 5 for boundary lines: the bend lies on the later end's diagonal, so the free piece has slope 1 or -1, or no length
  pub slope_one_lem : (i : ℕ) (im : suc i < g.m) → Level (spot g (n.core.corners.links i im).e bend) (spot g (n.core.corners.links i im).e end)
  slope_one_lem i im =
      let t = n.core.corners.links i im in
      go t.s t.kind t.u t.v t.next (rw (t.u, t.v) at (n.slopes.slope t.s _ t.e t.el t.kind))
    where
      go : {e : ℕ} (s : Side) → g.kind e ≡ side s (g.d s (g.w (at s i (suc i)))) → g.u e ≡ g.w (at s i (suc i)) → g.v e ≡ g.w (at (op s) i (suc i)) →
          Next OneBend s g (g.w (at s i (suc i))) (g.w (at (op s) i (suc i))) →
          Slope s g (g.w (at s i (suc i))) (g.w (at (op s) i (suc i))) (g.d s (g.w (at s i (suc i)))) → Level (spot g e bend) (spot g e end)
      go rt ek eu ev b f = rw (ek, eu, ev) (up (omega arith))
      go lf ek eu ev b f = rw (ek, eu, ev) (down (omega arith))
