-- Directions and cross products of places say the same.
use Rattle.std.specs.Prelude.{ℕ, ◌+◌, ◌*◌, ◌≡◌}
use Rattle.std.proofs.Common.{ap, arith}
use Rattle.rules.specs.declared.Place.{Place}
use Rattle.rules.specs.Meeting.{cross_plus, cross_minus}
use Rattle.net.specs.Angles.{Dir, dot⁺, dot⁻, cross⁺, cross⁻}
use Rattle.net.specs.Aims.{Heads}

-- (p - z) (q - y) is (e - w) (f - v)
product : (p z e w q y f v : ℕ) → p + w ≡ z + e → q + v ≡ y + f → p * q + z * y + (e * v + w * f) ≡ p * y + z * q + (e * f + w * v)
product p z e w q y f v h k = omega (arith, ap (λ n. n * q) h, ap (λ n. n * y) h, ap (λ n. n * e) k, ap (λ n. n * w) k)

-- the cross product of p - z and q - z, as the meeting test has it
pub cross_at : (a b : Dir) (z p q : Place) → Heads a z p → Heads b z q → cross_plus z p q + cross⁻ a b ≡ cross_minus z p q + cross⁺ a b
unfolding cross_plus cross_minus
cross_at a b z p q h k =
    omega (
      arith,
      product p.x z.x a.e a.w q.y z.y b.n b.s h.hx k.hy,
      product p.y z.y a.n a.s q.x z.x b.e b.w h.hy k.hx,
    )

-- their dot product
pub dot_at : (a b : Dir) (z p q : Place) → Heads a z p → Heads b z q →
    p.x * q.x + z.x * z.x + (p.y * q.y + z.y * z.y) + dot⁻ a b ≡ p.x * z.x + z.x * q.x + (p.y * z.y + z.y * q.y) + dot⁺ a b
dot_at a b z p q h k =
    omega (
      arith,
      product p.x z.x a.e a.w q.x z.x b.e b.w h.hx k.hx,
      product p.y z.y a.n a.s q.y z.y b.n b.s h.hy k.hy,
    )
