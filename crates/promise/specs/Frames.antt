-- The frame of a drawing of either style, and how many ports a point has: the bounds behind those of the running code.
use Rattle.std.specs.Prelude.{ℕ, zero, suc, ◌+◌, ◌-◌, ◌*◌, ◌<◌, ◌≤◌, ◌≡◌, refl}
use Rattle.std.proofs.Common.{arith}
use Rattle.std.proofs.Math.Decide.{ℕ_discrete}
use Rattle.rules.specs.declared.Style.{Style}
use Rattle.rules.specs.declared.Style.TheVariants.{OneBend, Straight}
use Rattle.rules.specs.Styles.{inset}
use Rattle.rules.specs.Points.{Drawing, x_of, y_of, dl_of, dr_of, m, W}
use Rattle.net.specs.Side.{Side, rt, lf}
use Rattle.net.specs.Net.{Beyond}
use Rattle.net.specs.Walls.{chain}
use Rattle.net.specs.Frame.{point_in_lem}
use Rattle.net.specs.Size.{inside}
use Rattle.promise.specs.Nets.{net_of, ports_of}
use Rattle.promise.specs.Sound.{Sound, Bent, Unbent, bent, unbent}

-- Point 2 lies to the right of point 1, and a straight drawing's width is even.
some-width : {d : Drawing} → Unbent d → 2 ≤ W d
some-width {d} p =
    let k = p.core.corners in
    let n : suc (m d - 1) ≡ m d = omega (arith, k.size) in
    let f : Beyond Straight rt (net_of d) 0 1 = rw (k.first, k.last (m d - 1) n) at (chain p.core.points 0 (m d - 1) (omega (arith, k.size)) (omega arith)).0 in
    omega (arith, f, k.origin, p.width.width)

-- A point of a one-bend drawing has fewer ports on a side than half the width: its highest port's line rises by as much.
ports-bent : {d : Drawing} → Bent d → (t : Side) (p : ℕ) → p < d.k → 2 * ports_of d t p + 2 ≤ W d
ports-bent {d} s t p pk = elim (ℕ_discrete (ports_of d t p) 0) [ yes e ↦ omega (arith, s.border.least) | no e ↦ some (omega arith) ]
  where
    some : 0 < ports_of d t p → 2 * ports_of d t p + 2 ≤ W d
    some low =
        let u = s.inv.ports.used t p (ports_of d t p) pk low (omega arith) in
        omega (
          arith,
          (s.inv.slopes.slope t (ports_of d t p) u.0 u.1 u.2).rise,
          (point_in_lem s.inv s.border ((net_of d).v u.0) (s.inv.core.lines.ends u.0 u.1).1).y,
        )

module _ {d : Drawing} (s : Sound d) where
  -- The drawing is 5k - 9 wide at most, or 2k - 4 where lines are straight; that is less by 2 for any k from 3 on.
  pub wide : W d + 11 ≤ 5 * d.k + 2 * inset d.style
  wide = go d.style refl
    where
      go : (τ : Style) → d.style ≡ τ → W d + 11 ≤ 5 * d.k + 2 * inset τ
      go OneBend b = omega (arith, (bent s b).border.width)
      go Straight b = omega (arith, (unbent s b).width.width, some-width (unbent s b))

  -- A point lies between the diagonals from the two lowest corners.
  pub framed : (p : ℕ) → p < d.k → (y_of d (suc p) ≤ x_of d (suc p)) × (x_of d (suc p) + y_of d (suc p) ≤ W d) × (2 * y_of d (suc p) + 2 * inset d.style ≤ W d)
  framed p pk = go d.style refl
    where
      go : (τ : Style) → d.style ≡ τ → (y_of d (suc p) ≤ x_of d (suc p)) × (x_of d (suc p) + y_of d (suc p) ≤ W d) × (2 * y_of d (suc p) + 2 * inset τ ≤ W d)
      go OneBend b = let i = point_in_lem (bent s b).inv (bent s b).border p pk in (i.a, i.b, omega (arith, i.y))
      go Straight b = let i = inside (unbent s b).core (unbent s b).width p pk in (i.0, i.1, omega (arith, i.0, i.1))

  -- A point has fewer ports on a side than half the width; in a straight drawing it has none.
  ports_most : (t : Side) (p : ℕ) → p < d.k → 2 * ports_of d t p + 2 ≤ W d
  ports_most t p pk = go d.style refl
    where
      go : (τ : Style) → d.style ≡ τ → 2 * ports_of d t p + 2 ≤ W d
      go OneBend b = ports-bent (bent s b) t p pk
      go Straight b = omega (arith, (unbent s b).width.bare t p pk, some-width (unbent s b))

  -- dr and dl of a placed point are less than half the width.
  pub dr_most : (p : ℕ) → 0 < p → p ≤ d.k → 2 * dr_of d p + 2 ≤ W d
  dr_most zero low high = absurd (omega arith)
  dr_most (suc p) low high = ports_most rt p high

  pub dl_most : (p : ℕ) → 0 < p → p ≤ d.k → 2 * dl_of d p + 2 ≤ W d
  dl_most zero low high = absurd (omega arith)
  dl_most (suc p) low high = ports_most lf p high
