-- 5, for both drawings: along the boundary x + y changes its parity at every step of a one-bend drawing, and at none of a straight one.
use Rattle.std.specs.Prelude.{ℕ, zero, suc, ◌+◌, ◌%◌, ◌<◌, ◌≡◌}
use Rattle.std.proofs.Common.{arith}
use Rattle.rules.specs.declared.Style.{Style}
use Rattle.rules.specs.declared.Style.TheVariants.{OneBend, Straight}
use Rattle.net.specs.Side.{Side, rt, lf, op, at}
use Rattle.net.specs.Net.{Net, Next}
use Rattle.net.specs.Inv.{Corners}

abbrev pub steps : Style → ℕ → ℕ
steps OneBend i = i
steps Straight i = 0

over : (τ : Style) (s : Side) {g : Net} (i : ℕ) → Next τ s g (g.w (at s i (suc i))) (g.w (at (op s) i (suc i))) →
    (g.x (g.w i) + g.y (g.w i) + steps τ i) % 2 ≡ 0 → (g.x (g.w (suc i)) + g.y (g.w (suc i)) + steps τ (suc i)) % 2 ≡ 0
over OneBend rt i n e = omega arith
over OneBend lf i n e = omega arith
over Straight rt i n e = omega arith
over Straight lf i n e = omega arith

first : (τ : Style) (x y : ℕ) → x ≡ 0 → y ≡ 0 → (x + y + steps τ 0) % 2 ≡ 0
first OneBend x y e f = omega arith
first Straight x y e f = omega arith

pub parity : {τ : Style} {g : Net} → Corners τ g → (i : ℕ) → i < g.m → (g.x (g.w i) + g.y (g.w i) + steps τ i) % 2 ≡ 0
parity {τ = τ} {g = g} c zero im = let o = c.origin in rw c.first (first τ (g.x 0) (g.y 0) o.0 o.1)
parity {τ = τ} {g = g} c (suc i) im = let t = c.links i im in over τ t.s i t.next (parity c i (omega arith))
