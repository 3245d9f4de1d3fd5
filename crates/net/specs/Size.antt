-- The size of a straight drawing: 2k - 4 wide, every point under the diagonals from its lowest corners, and k - 2 high once only points 0, 1 and the last are on the boundary. None of its points has a port.
use Rattle.std.specs.Prelude.{ℕ, zero, suc, ◌+◌, ◌*◌, ◌<◌, ◌≤◌, ◌≡◌, refl}
use Rattle.std.proofs.Common.{ap, ◌∙◌, arith}
use Rattle.std.proofs.Math.Decide.{ℕ_discrete}
use Rattle.rules.specs.declared.Style.TheVariants.{Straight}
use Rattle.net.specs.Side.{Side, rt, lf, op, at}
use Rattle.net.specs.Net.{Net, Next}
use Rattle.net.specs.Inv.{Core}
use Rattle.net.specs.Adds.{Adds, Rigid}
use Rattle.net.specs.Walls.{tip_in, by_point}
use Rattle.net.specs.Border.{x_last}
use Rattle.net.specs.Frame.{left_of_lem}
use Rattle.net.specs.Start.{start}

-- 9 for straight drawings
pub record Width (g : Net) : Type 0 where
  pub width : g.x 1 + 4 ≡ 2 * g.k
  pub bare : (s : Side) (p : ℕ) → p < g.k → g.d s p ≡ 0

bare-opened : (g : Net) (s : Side) (p : ℕ) → p < 3 → (start Straight g).d s p ≡ 0
unfolding start
bare-opened g rt zero h = refl
bare-opened g rt (suc zero) h = refl
bare-opened g rt (suc (suc zero)) h = refl
bare-opened g lf zero h = refl
bare-opened g lf (suc zero) h = refl
bare-opened g lf (suc (suc zero)) h = refl
bare-opened g s (suc (suc (suc p))) h = absurd (omega arith)

pub width-opened : (g : Net) → Width (start Straight g)
unfolding start
width-opened g = record { width = omega arith; bare = bare-opened g }

-- no line of a call takes a port
bare' : {g g' : Net} {l r : ℕ} → Core Straight g → (a : Adds Straight g g' l r) → Width g → (s : Side) (p : ℕ) → p < g'.k → g'.d s p ≡ 0
bare' {g} {g'} {l} {r} c a b s =
    by_point c.points a (λ p. g'.d s p ≡ 0)
    (λ p pk.
    elim (ℕ_discrete p (g.w (at s l r))) [
      | yes e ↦ rw e (a.d_tip s ∙ b.bare s (g.w (at s l r)) (tip_in c.points a s))
      | no n ↦ a.d_old s p pk n ∙ b.bare s p pk
    ])
    (a.d_new s)

-- both moves of a call together widen it by 2
pub width' : {g g' : Net} {l r : ℕ} → Core Straight g → (a : Adds Straight g g' l r) → (x : Rigid Straight g g' l r a) → x.T ≡ 2 → Width g → Width g'
width' c a x t b = record { width = omega (arith, b.width, x_last c.points c.lines a x c.corners, t, a.k'); bare = bare' c a b }

module _ {g : Net} (c : Core Straight g) (b : Width g) where
  -- every point lies in the frame
  pub inside : (p : ℕ) → p < g.k → (g.y p ≤ g.x p) × (g.x p + g.y p ≤ g.x 1) × (g.y p + 2 ≤ g.k)
  inside p pk =
      let o = c.corners.origin in
      let a = c.points.frame p pk in
      elim (ℕ_discrete p 1) [
        | yes e ↦ rw e (omega arith, omega arith, omega (arith, b.width))
        | no d ↦ let l = left_of_lem c.points c.corners p pk d in (a, omega arith, omega (arith, b.width))
      ]

  -- the point between points 0 and 1 of a boundary of three is at the top
  pub top : g.m ≡ 3 → g.y (g.w 1) + 2 ≡ g.k
  top e =
      let k = c.corners in
      let o = c.points.on 1 (omega arith) in
      let first : g.w 0 ≡ 0 = k.first in
      let last : g.w 2 ≡ 1 = k.last 2 (omega arith) in
      let h0 : 1 < g.w 1 = above (g.w 1) (λ z. omega (arith, ap g.col z, ap g.col first, (c.points.on 0 (omega arith)).1, o.1)) (λ z. omega (arith, ap g.col z, ap g.col last, (c.points.on 2 (omega arith)).1, o.1)) in
      let i = inside (g.w 1) o.0 in
      go (k.links 0 (omega arith)).s (k.links 0 (omega arith)).next (k.links 1 (omega arith)).s (k.links 1 (omega arith)).next
      (k.rest (g.w 1) h0 o.0) (ap g.x first) (ap g.y first) (ap g.x last) (ap g.y last) i
    where
      above : (p : ℕ) → (p ≡ 0 → ⊥) → (p ≡ 1 → ⊥) → 1 < p
      above p n n' = omega arith

      go : (s : Side) → Next Straight s g (g.w (at s 0 1)) (g.w (at (op s) 0 1)) → (t : Side) → Next Straight t g (g.w (at t 1 2)) (g.w (at (op t) 1 2)) → 0 < g.y (g.w 1) →
          g.x (g.w 0) ≡ g.x 0 → g.y (g.w 0) ≡ g.y 0 → g.x (g.w 2) ≡ g.x 1 → g.y (g.w 2) ≡ g.y 1 →
          (g.y (g.w 1) ≤ g.x (g.w 1)) × (g.x (g.w 1) + g.y (g.w 1) ≤ g.x 1) × (g.y (g.w 1) + 2 ≤ g.k) → g.y (g.w 1) + 2 ≡ g.k
      go rt n lf n' z x0 y0 x2 y2 i = let o = c.corners.origin in omega (arith, b.width)
      go rt n rt n' z x0 y0 x2 y2 i = let o = c.corners.origin in omega (arith, b.width)
      go lf n t n' z x0 y0 x2 y2 i = let o = c.corners.origin in absurd (omega arith)
