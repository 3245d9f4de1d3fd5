use Rattle.std.specs.Prelude.{◌+◌, ◌*◌, ◌≡◌}
use Rattle.std.proofs.Common.{arith}
use Rattle.rules.specs.declared.Place.{Place}
use Rattle.rules.specs.Meeting.{cross_plus, cross_minus}

-- The affine dependency of four points, by its weights, its x and its y.
pub dep_one : (p q r s : Place) →
    cross_plus r s q + cross_minus r s p + cross_plus p q s + cross_minus p q r ≡ cross_minus r s q + cross_plus r s p + cross_minus p q s + cross_plus p q r
unfolding cross_plus cross_minus
dep_one p q r s = omega arith

pub dep_x : (p q r s : Place) →
    cross_plus r s q * p.x + cross_minus r s p * q.x + cross_plus p q s * r.x + cross_minus p q r * s.x
    ≡ cross_minus r s q * p.x + cross_plus r s p * q.x + cross_minus p q s * r.x + cross_plus p q r * s.x
unfolding cross_plus cross_minus
dep_x p q r s = omega arith

pub dep_y : (p q r s : Place) →
    cross_plus r s q * p.y + cross_minus r s p * q.y + cross_plus p q s * r.y + cross_minus p q r * s.y
    ≡ cross_minus r s q * p.y + cross_plus r s p * q.y + cross_minus p q s * r.y + cross_plus p q r * s.y
unfolding cross_plus cross_minus
dep_y p q r s = omega arith
