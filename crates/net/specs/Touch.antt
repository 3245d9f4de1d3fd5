-- A piece that a functional keeps at or above the level of z, at the level only in z itself, has only z in common with a piece at or below that level.
use Rattle.std.specs.Prelude.{ℕ, ◌+◌, ◌*◌, ◌<◌, ◌≤◌, ◌≡◌}
use Rattle.std.proofs.Common.{ap, arith, mul-le-mul_left}
use Rattle.std.proofs.Math.Nat.{eq_of_mul-eq-mul_left}
use Rattle.rules.specs.declared.Place.{Place}
use Rattle.plane.specs.Common.{Common, flip}
use Rattle.plane.specs.Apart.{Fun, up, dn, Lt, Le, OnlyAt}

pub data Lift (f : Fun) (z p : Place) : Type 0 where
  more : Lt f z p → Lift f z p
  same : p.x ≡ z.x → p.y ≡ z.y → Lift f z p

pub lift_le : (f : Fun) (z p : Place) → Lift f z p → Le f z p
lift_le f z p (more h) = omega arith
lift_le f z p (same ex ey) = omega (arith, ap (λ n. f.au * n) ex, ap (λ n. f.bu * n) ey, ap (λ n. f.av * n) ex, ap (λ n. f.bv * n) ey)

weightless : (A B C D pu pd qu qd ru rd su sd zu zd : ℕ) → A + B ≡ C + D → A * pu + B * qu ≡ C * ru + D * su → A * pd + B * qd ≡ C * rd + D * sd →
    zu + pd < pu + zd → zu + qd ≤ qu + zd → ru + zd ≤ zu + rd → su + zd ≤ zu + sd → A ≡ 0
weightless A B C D pu pd qu qd ru rd su sd zu zd tot eu ed h₁ h₂ h₃ h₄ =
    omega (arith, mul-le-mul_left A h₁, mul-le-mul_left B h₂, mul-le-mul_left C h₃, mul-le-mul_left D h₄, ap (λ n. n * zu) tot, ap (λ n. n * zd) tot)

data Rest (z p : Place) (A : ℕ) : Type 0 where
  none : A ≡ 0 → Rest z p A
  here : p ≡ z → Rest z p A

part : (c : Place → ℕ) (z p : Place) (A : ℕ) → Rest z p A → A * c p ≡ A * c z
part c z p A (none e) = omega (arith, ap (λ n. n * c p) e, ap (λ n. n * c z) e)
part c z p A (here e) = ap (λ t. A * c t) e

pub touch_at : (f : Fun) (z p q r s : Place) → Lift f z p → Lift f z q → Le f r z → Le f s z → OnlyAt z p q r s
touch_at f z p q r s lp lq hr hs w =
    record {
      atx = omega (arith, part (λ t. t.x) z p w.A (one lp), part (λ t. t.x) z q w.B (two lq));
      aty = omega (arith, part (λ t. t.y) z p w.A (one lp), part (λ t. t.y) z q w.B (two lq));
    }
  where
    eu : w.A * up f p + w.B * up f q ≡ w.C * up f r + w.D * up f s
    eu = omega (arith, ap (λ n. f.au * n) w.eqx, ap (λ n. f.bu * n) w.eqy)

    ed : w.A * dn f p + w.B * dn f q ≡ w.C * dn f r + w.D * dn f s
    ed = omega (arith, ap (λ n. f.av * n) w.eqx, ap (λ n. f.bv * n) w.eqy)

    one : Lift f z p → Rest z p w.A
    one (more h) =
        none (weightless w.A w.B w.C w.D (up f p) (dn f p) (up f q) (dn f q) (up f r) (dn f r) (up f s) (dn f s) (up f z) (dn f z)
        w.tot eu ed h (lift_le f z q lq) hr hs)
    one (same ex ey) = here (λ i. record { x = ex i; y = ey i })

    two : Lift f z q → Rest z q w.B
    two (more h) =
        none (weightless w.B w.A w.C w.D (up f q) (dn f q) (up f p) (dn f p) (up f r) (dn f r) (up f s) (dn f s) (up f z) (dn f z)
        (omega (arith, w.tot)) (omega (arith, eu)) (omega (arith, ed)) h (lift_le f z p lp) hr hs)
    two (same ex ey) = here (λ i. record { x = ex i; y = ey i })

abbrev pub neg : Fun → Fun
neg f = record { au = f.av; bu = f.bv; av = f.au; bv = f.bu }

-- pq has z at its level and the rest above it, rs has t at its level and the rest below it, and t is at most as high as z: a common point is at z and t
pub part_at : (f : Fun) (z t p q r s : Place) → Le f t z → Lift f z p → Lift f z q → Lift (neg f) t r → Lift (neg f) t s → Common p q r s → (z.x ≡ t.x) × (z.y ≡ t.y)
part_at f z t p q r s h lp lq lr ls w =
    let hr = lift_le (neg f) t r lr in
    let hs = lift_le (neg f) t s ls in
    let hp = lift_le f z p lp in
    let hq = lift_le f z q lq in
    let a = touch_at f z p q r s lp lq (omega arith) (omega arith) w in
    let b = touch_at (neg f) t r s p q lr ls (omega arith) (omega arith) (flip w) in (
      eq_of_mul-eq-mul_left (w.A + w.B) w.pos z.x t.x (omega (arith, a.atx, b.atx, ap (λ n. n * t.x) w.tot)),
      eq_of_mul-eq-mul_left (w.A + w.B) w.pos z.y t.y (omega (arith, a.aty, b.aty, ap (λ n. n * t.y) w.tot)),
    )
