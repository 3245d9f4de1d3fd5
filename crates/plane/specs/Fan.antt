-- Pieces that leave one point.
use Rattle.std.specs.Prelude.{ℕ, ◌+◌, ◌*◌, ◌-◌, ◌<◌, ◌≤◌, ◌≡◌, ◌≢◌, false}
use Rattle.std.proofs.Common.{ap, sym, arith, mul-pos, le_of_lt, add-sub_of_le}
use Rattle.std.proofs.Math.Nat.{eq_of_mul-eq-mul_left}
use Rattle.std.proofs.Math.Decide.{dec_lt}
use Rattle.rules.specs.declared.Place.{Place}
use Rattle.rules.specs.Meeting.{cross_plus, cross_minus, meet}
use Rattle.plane.specs.Common.{meet_common}
use Rattle.plane.specs.Exact.{balance, unbalanced}
use Rattle.rules.specs.Bools.{is_false}
use Rattle.plane.specs.Apart.{OnlyAt}

self : (e p : Place) → cross_plus e p e ≡ cross_minus e p e
unfolding cross_plus cross_minus
self e p = omega arith

-- two pieces from e that do not lie on one line have only e in common
pub fan-end : (e p r : Place) → cross_plus e p r ≢ cross_minus e p r → OnlyAt e e p e r
fan-end e p r n w =
    elim (dec_lt 0 w.D) [
      | yes h ↦
          absurd
          (n (eq_of_mul-eq-mul_left w.D h (cross_plus e p r) (cross_minus e p r)
          (omega (arith, balance e p e r w, ap (λ k. w.C * k) (self e p)))))
      | no h ↦
          let z : w.D ≡ 0 = omega arith in
          record { atx = omega (arith, ap (λ k. k * r.x) z, ap (λ k. k * e.x) w.tot, ap (λ k. k * e.x) z); aty = omega (arith, ap (λ k. k * r.y) z, ap (λ k. k * e.y) w.tot, ap (λ k. k * e.y) z) }
    ]

-- both ends of one piece strictly to the left of the line of the other
pub one_side_lem : (p q r s : Place) → cross_minus p q r < cross_plus p q r → cross_minus p q s < cross_plus p q s → meet p q r s ≡ false
one_side_lem p q r s h k =
    is_false _
    (λ e.
    let w = meet_common p q r s e in
    unbalanced w.C w.D _ _ _ _ (omega arith) h k (balance p q r s w))

-- the product of two differences is at least 0, and above 0 where both are
gap : (a i b c j d : ℕ) → a + i ≡ b → c + j ≡ d → a * d + b * c + i * j ≡ a * c + b * d
gap a i b c j d e₁ e₂ = omega (arith, ap (λ n. a * n) e₂, ap (λ n. n * c) e₁, ap (λ n. n * d) e₁, ap (λ n. i * n) e₂)

pub cross_le : {a b c d : ℕ} → a ≤ b → c ≤ d → a * d + b * c ≤ a * c + b * d
cross_le h k = omega (arith, gap _ _ _ _ _ _ (add-sub_of_le h) (add-sub_of_le k))

pub cross-lt : {a b c d : ℕ} → a < b → c < d → a * d + b * c < a * c + b * d
cross-lt {a} {b} {c} {d} h k =
    let p : 0 < (b - a) * (d - c) = mul-pos (omega arith) (omega arith) in
    let e = gap a _ b c _ d (add-sub_of_le (le_of_lt h)) (add-sub_of_le (le_of_lt k)) in
    omega arith

-- w is straight above p, or to the left of that, and the line from p to v goes right and does not fall: w is left of it
pub over_left : (p v w : Place) → p.x < v.x → p.y ≤ v.y → w.x ≤ p.x → p.y < w.y → cross_minus p v w < cross_plus p v w
unfolding cross_plus cross_minus
over_left p v w h₁ h₂ h₃ h₄ = omega (arith, cross-lt h₁ h₄, cross_le h₃ h₂)

-- p to v rises, at most as fast as it goes right; w is at least as high as v, and its x - y is less: w is left of pv
pub rise_left : (p v w : Place) → p.x + v.y ≤ v.x + p.y → p.y < v.y → v.y ≤ w.y → w.x + v.y < v.x + w.y → cross_minus p v w < cross_plus p v w
unfolding cross_plus cross_minus
rise_left p v w h₁ h₂ h₃ h₄ = omega (arith, cross_le h₁ h₃, cross-lt h₂ h₄)

-- two lines from one stack of ports to two points: the upper one, from p' to v', does not meet the lower one, from p to v
pub fan : (p v p' v' : Place) → p.x + v.y ≤ v.x + p.y → p.y < v.y → p'.x ≡ p.x → p.y < p'.y → v.y ≤ v'.y → v'.x + v.y < v.x + v'.y →
    meet p v p' v' ≡ false
fan p v p' v' h₁ h₂ e h₃ h₄ h₅ = one_side_lem p v p' v' (over_left p v p' (omega arith) (omega arith) (omega arith) h₃) (rise_left p v v' h₁ h₂ h₄ h₅)

-- the mirror image: left ports, and x + y
pub one_side' : (p q r s : Place) → cross_plus p q r < cross_minus p q r → cross_plus p q s < cross_minus p q s → meet p q r s ≡ false
one_side' p q r s h k =
    is_false _
    (λ e.
    let w = meet_common p q r s e in
    unbalanced w.C w.D _ _ _ _ (omega arith) h k (sym (balance p q r s w)))

pub over_right : (p v w : Place) → v.x < p.x → p.y ≤ v.y → p.x ≤ w.x → p.y < w.y → cross_plus p v w < cross_minus p v w
unfolding cross_plus cross_minus
over_right p v w h₁ h₂ h₃ h₄ = omega (arith, cross-lt h₁ h₄, cross_le h₃ h₂)

pub rise_right : (p v w : Place) → v.x + v.y ≤ p.x + p.y → p.y < v.y → v.y ≤ w.y → v.x + v.y < w.x + w.y → cross_plus p v w < cross_minus p v w
unfolding cross_plus cross_minus
rise_right p v w h₁ h₂ h₃ h₄ = omega (arith, cross_le h₁ h₃, cross-lt h₂ h₄)

pub fan' : (p v p' v' : Place) → v.x + v.y ≤ p.x + p.y → p.y < v.y → p'.x ≡ p.x → p.y < p'.y → v.y ≤ v'.y → v.x + v.y < v'.x + v'.y →
    meet p v p' v' ≡ false
fan' p v p' v' h₁ h₂ e h₃ h₄ h₅ = one_side' p v p' v' (over_right p v p' (omega arith) (omega arith) (omega arith) h₃) (rise_right p v v' h₁ h₂ h₄ h₅)

-- a steep line from m down to w, and a point z that lies to the right of w, less far up or down
pub steep : (m w z : Place) → m.x + w.y ≤ w.x + m.y → w.x + w.y ≤ m.x + m.y → w.y < m.y →
    w.x + z.y < z.x + w.y → w.x + w.y < z.x + z.y → cross_minus m w z < cross_plus m w z
unfolding cross_plus cross_minus
steep m w z h₁ h₂ h₃ h₄ h₅ =
    elim (dec_lt (m.x + w.y) (w.x + m.y)) [
      | yes h ↦ omega (arith, cross-lt h h₅, cross_le h₂ (le_of_lt h₄))
      | no h ↦
          let k : w.x + w.y < m.x + m.y = omega arith in
          omega (arith, cross_le h₁ (le_of_lt h₅), cross-lt k h₄)
    ]
