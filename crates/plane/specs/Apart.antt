-- Pieces that a linear functional keeps apart do not meet; pieces that touch at a level have only that point in common.
use Rattle.std.specs.Prelude.{ℕ, ◌+◌, ◌*◌, ◌<◌, ◌≤◌, ◌≡◌, false}
use Rattle.std.proofs.Common.{ap, arith, mul-le-mul_left}
use Rattle.std.proofs.Math.Decide.{dec_le}
use Rattle.rules.specs.declared.Place.{Place}
use Rattle.rules.specs.Meeting.{meet}
use Rattle.rules.specs.Bools.{is_false}
use Rattle.plane.specs.Common.{Common, meet_common, flip}

-- The functional (au x + bu y) - (av x + bv y), by its parts that are added and taken away.
pub record Fun : Type 0 where
  pub au : ℕ
  pub bu : ℕ
  pub av : ℕ
  pub bv : ℕ

abbrev pub up : Fun → Place → ℕ
up f p = f.au * p.x + f.bu * p.y

abbrev pub dn : Fun → Place → ℕ
dn f p = f.av * p.x + f.bv * p.y

-- f of p is less than f of r; at most f of r
abbrev pub Lt : Fun → Place → Place → Type 0
Lt f p r = up f p + dn f r < up f r + dn f p

abbrev pub Le : Fun → Place → Place → Type 0
Le f p r = up f p + dn f r ≤ up f r + dn f p

-- a level cu - cv between two weighted means
level : (A B C D up uq ur us vp vq vr vs cu cv : ℕ) → 0 < A + B → A + B ≡ C + D →
    A * up + B * uq ≡ C * ur + D * us → A * vp + B * vq ≡ C * vr + D * vs →
    up + cv ≤ cu + vp → uq + cv ≤ cu + vq → cu + vr < ur + cv → cu + vs < us + cv → ⊥
level A B C D up uq ur us vp vq vr vs cu cv pos tot eu ev h₁ h₂ h₃ h₄ =
    omega (arith, mul-le-mul_left A h₁, mul-le-mul_left B h₂, mul-le-mul_left C h₃, mul-le-mul_left D h₄, ap (λ n. n * cu) tot, ap (λ n. n * cv) tot)

-- a functional of a common point, by its parts
mean_up : (f : Fun) (p q r s : Place) (w : Common p q r s) → w.A * up f p + w.B * up f q ≡ w.C * up f r + w.D * up f s
mean_up f p q r s w = omega (arith, ap (λ n. f.au * n) w.eqx, ap (λ n. f.bu * n) w.eqy)

mean-dn : (f : Fun) (p q r s : Place) (w : Common p q r s) → w.A * dn f p + w.B * dn f q ≡ w.C * dn f r + w.D * dn f s
mean-dn f p q r s w = omega (arith, ap (λ n. f.av * n) w.eqx, ap (λ n. f.bv * n) w.eqy)

-- Both of p and q are below both of r and s: no point in common, and the test says so.
pub no_common : (f : Fun) (p q r s : Place) → Lt f p r → Lt f p s → Lt f q r → Lt f q s → Common p q r s → ⊥
no_common f p q r s h₁ h₂ h₃ h₄ w =
    elim (dec_le (up f p + dn f q) (up f q + dn f p)) [
      | yes h ↦ go (up f q) (dn f q) h (omega arith) (omega arith) (omega arith)
      | no h ↦ go (up f p) (dn f p) (omega arith) (omega arith) (omega arith) (omega arith)
    ]
  where
    go : (cu cv : ℕ) → up f p + cv ≤ cu + dn f p → up f q + cv ≤ cu + dn f q → cu + dn f r < up f r + cv → cu + dn f s < up f s + cv → ⊥
    go cu cv =
        level w.A w.B w.C w.D (up f p) (up f q) (up f r) (up f s) (dn f p) (dn f q) (dn f r) (dn f s)
        cu cv w.pos w.tot (mean_up f p q r s w) (mean-dn f p q r s w)

pub apart : (f : Fun) (p q r s : Place) → Lt f p r → Lt f p s → Lt f q r → Lt f q s → meet p q r s ≡ false
apart f p q r s h₁ h₂ h₃ h₄ = is_false _ (λ e. no_common f p q r s h₁ h₂ h₃ h₄ (meet_common p q r s e))

-- the same with the pieces exchanged
pub apart-swap : (f : Fun) (p q r s : Place) → Lt f r p → Lt f s p → Lt f r q → Lt f s q → meet p q r s ≡ false
apart-swap f p q r s h₁ h₂ h₃ h₄ = is_false _ (λ e. no_common f r s p q h₁ h₃ h₂ h₄ (flip (meet_common p q r s e)))

-- x, y, x - y, x + y
abbrev pub fx : Fun
fx = record { au = 1; bu = 0; av = 0; bv = 0 }

abbrev pub fy : Fun
fy = record { au = 0; bu = 1; av = 0; bv = 0 }

abbrev pub fa : Fun
fa = record { au = 1; bu = 0; av = 0; bv = 1 }

abbrev pub fb : Fun
fb = record { au = 1; bu = 1; av = 0; bv = 0 }

-- A common point is at a place e.
pub record At (e : Place) {p q r s : Place} (w : Common p q r s) : Type 0 where
  pub atx : w.A * p.x + w.B * q.x ≡ (w.A + w.B) * e.x
  pub aty : w.A * p.y + w.B * q.y ≡ (w.A + w.B) * e.y

-- the pieces have no point in common but the place e
abbrev pub OnlyAt : Place → Place → Place → Place → Place → Type 0
OnlyAt e p q r s = (w : Common p q r s) → At e w

touch_A : (A B C D up uq ur us vp vq vr vs cu cv : ℕ) → A + B ≡ C + D →
    A * up + B * uq ≡ C * ur + D * us → A * vp + B * vq ≡ C * vr + D * vs →
    up + cv < cu + vp → uq + cv ≤ cu + vq → cu + vr ≤ ur + cv → cu + vs ≤ us + cv → A ≡ 0
touch_A A B C D up uq ur us vp vq vr vs cu cv tot eu ev h₁ h₂ h₃ h₄ =
    omega (arith, mul-le-mul_left A h₁, mul-le-mul_left B h₂, mul-le-mul_left C h₃, mul-le-mul_left D h₄, ap (λ n. n * cu) tot, ap (λ n. n * cv) tot)

-- p is below q, and q is at most r and s: a common point is q.
pub touch : (f : Fun) (p q r s : Place) → Lt f p q → Le f q r → Le f q s → OnlyAt q p q r s
touch f p q r s h₁ h₂ h₃ w =
    let z : w.A ≡ 0 =
    touch_A w.A w.B w.C w.D (up f p) (up f q) (up f r) (up f s) (dn f p) (dn f q) (dn f r) (dn f s)
    (up f q) (dn f q) w.tot (mean_up f p q r s w) (mean-dn f p q r s w) (omega arith) (omega arith) (omega arith) (omega arith) in
    record { atx = omega (arith, ap (λ n. n * p.x) z, ap (λ n. n * q.x) z); aty = omega (arith, ap (λ n. n * p.y) z, ap (λ n. n * q.y) z) }
