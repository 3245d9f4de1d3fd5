-- DEMAND 3, clause 5: two lines leave a point at an angle that is wide enough.
use Rattle.std.specs.Prelude.{ℕ, pred, ◌+◌, ◌-◌, ◌*◌, ◌≤◌, ◌≡◌, true, leb}
use Rattle.std.proofs.Common.{ap, sym, arith, mul-le-mul_left, le-leb}
use Rattle.std.proofs.Math.Bool.{or-true}
use Rattle.rules.specs.declared.Place.{Place}
use Rattle.rules.specs.Points.{Drawing, place_of, line_at}
use Rattle.rules.specs.Meeting.{cross_plus, cross_minus}
use Rattle.rules.specs.Demand.{towards, dot_plus, dot_minus, cross_size, wide_apart}
use Rattle.net.specs.Angles.{Dir, dot⁺, dot⁻, cross⁺, cross⁻, Wide, dull, left, right}
use Rattle.net.specs.Aims.{Heads, wide}
use Rattle.net.specs.Signs.{cross_at, dot_at}
use Rattle.net.specs.Degs.{deg}
use Rattle.promise.specs.Nets.{net_of}
use Rattle.promise.specs.Sound.{Bent}
use Rattle.promise.specs.Promise.{Angled}
use Rattle.promise.specs.Leaving.{leaving, leaving-heads, end-placed}
use Rattle.promise.specs.Degree.{degree_is}

-- The dot product is p - m and also p' - m', and the cross product c - d is also c' - d' and at most t: k times t is at least the dot product.
enough : (k p m p' m' c d c' d' t : ℕ) → p + m' ≡ m + p' → c + d' ≡ d + c' → c ≤ d + t → p' + k * d' ≤ m' + k * c' → p ≤ m + k * t
enough k p m p' m' c d c' d' t e f h b = omega (arith, ap (λ n. k * n) f, mul-le-mul_left k h)

-- The dot product of two directions is that of the rules.
dot_is : (a b : Dir) (z q r : Place) → Heads a z q → Heads b z r → dot_plus z q r + dot⁻ a b ≡ dot_minus z q r + dot⁺ a b
unfolding dot_plus dot_minus
dot_is a b z q r h k = omega (arith, dot_at a b z q r h k)

-- The size of the cross product is at least the cross product, either way round.
size_plus : (z q r : Place) → cross_plus z q r ≤ cross_minus z q r + cross_size z q r
unfolding cross_size
size_plus z q r = omega arith

size_minus : (z q r : Place) → cross_minus z q r ≤ cross_plus z q r + cross_size z q r
unfolding cross_size
size_minus z q r = omega arith

-- The first test of `wide_apart` passes, or the second.
wide-dull : (n : ℕ) (z q r : Place) → dot_plus z q r ≤ dot_minus z q r → wide_apart n z q r ≡ true
unfolding wide_apart
wide-dull n z q r h = rw (le-leb (dot_plus z q r) (dot_minus z q r) h)

wide_sharp : (n : ℕ) (z q r : Place) → dot_plus z q r ≤ dot_minus z q r + (2 * n - 1) * cross_size z q r → wide_apart n z q r ≡ true
unfolding wide_apart
wide_sharp n z q r h = rw (le-leb (dot_plus z q r) (dot_minus z q r + (2 * n - 1) * cross_size z q r) h) (or-true (leb (dot_plus z q r) (dot_minus z q r)))

-- Directions that are wide apart lead to places that are.
wide-places : (n : ℕ) (a b : Dir) (z q r : Place) → Heads a z q → Heads b z r → Wide (2 * n - 1) a b → wide_apart n z q r ≡ true
wide-places n a b z q r h k (dull w) = wide-dull n z q r (omega (arith, dot_is a b z q r h k))
wide-places n a b z q r h k (left w) =
    wide_sharp n z q r
    (enough (2 * n - 1) (dot_plus z q r) (dot_minus z q r) (dot⁺ a b) (dot⁻ a b) (cross_plus z q r) (cross_minus z q r) (cross⁺ a b) (cross⁻ a b) (cross_size z q r)
    (dot_is a b z q r h k) (cross_at a b z q r h k) (size_plus z q r) w)
wide-places n a b z q r h k (right w) =
    wide_sharp n z q r
    (enough (2 * n - 1) (dot_plus z q r) (dot_minus z q r) (dot⁺ a b) (dot⁻ a b) (cross_minus z q r) (cross_plus z q r) (cross⁻ a b) (cross⁺ a b) (cross_size z q r)
    (dot_is a b z q r h k) (sym (cross_at a b z q r h k)) (size_minus z q r) w)

module _ (d : Drawing) (s : Bent d) where
  -- Two different lines at a point leave it at an angle that is wide enough for its degree.
  pub angles : Angled d
  angles p e f el fl n≢ h k =
      let placed = end-placed d s p e el h in
      let a = leaving d s p e el h in
      let b = leaving d s p f fl k in
      rw (sym (degree_is d s p placed.0))
      (wide-places (deg (net_of d) (pred p)) a.aimed.dir b.aimed.dir (place_of d p) (towards d p (line_at d e)) (towards d p (line_at d f))
      (leaving-heads a) (leaving-heads b)
      (wide s.inv s.degs (pred p) placed.1 e f el fl n≢ a.aimed.aim b.aimed.aim))
