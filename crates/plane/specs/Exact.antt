-- The test is exact: pieces that have a point in common by weights meet by the signs of cross products.
use Rattle.std.specs.Prelude.{ℕ, ◌+◌, ◌*◌, ◌<◌, ◌≤◌, min, max, ◌≡◌, Bool, true, false, not, ◌&&◌, if◌then◌else◌}
use Rattle.std.proofs.Common.{ap, sym, inl, inr, arith, mul-le-mul_left, ltb-true, le-leb}
use Rattle.std.proofs.Math.Decide.{dec_le}
use Rattle.rules.specs.declared.Place.{Place}
use Rattle.rules.specs.Meeting.{cross_plus, cross_minus, left_of, right_of, one_side, one_line, overlap, meet}
use Rattle.rules.specs.Bools.{both, either, is_false}
use Rattle.plane.specs.Common.{Common, flip}

-- cross_plus p q and cross_minus p q of weighted points depend on the weighted mean alone
spread⁺ : (p q r s : Place) (C D : ℕ) → C * cross_plus p q r + D * cross_plus p q s ≡ q.x * (C * r.y + D * s.y) + p.x * q.y * (C + D) + p.y * (C * r.x + D * s.x)
unfolding cross_plus
spread⁺ p q r s C D = omega arith

spread⁻ : (p q r s : Place) (C D : ℕ) → C * cross_minus p q r + D * cross_minus p q s ≡ q.x * p.y * (C + D) + p.x * (C * r.y + D * s.y) + q.y * (C * r.x + D * s.x)
unfolding cross_minus
spread⁻ p q r s C D = omega arith

ends : (p q : Place) (A B : ℕ) → A * cross_plus p q p + B * cross_plus p q q ≡ A * cross_minus p q p + B * cross_minus p q q
unfolding cross_plus cross_minus
ends p q A B = omega arith

-- the weighted mean of r and s lies on the line pq
pub balance : (p q r s : Place) (w : Common p q r s) → w.C * cross_plus p q r + w.D * cross_plus p q s ≡ w.C * cross_minus p q r + w.D * cross_minus p q s
balance p q r s w =
    cc (
      spread⁺ p q r s w.C w.D,
      spread⁺ p q p q w.A w.B,
      ends p q w.A w.B,
      spread⁻ p q p q w.A w.B,
      spread⁻ p q r s w.C w.D,
    )

-- two positive numbers have no weights that balance them
pub unbalanced : (C D m₁ p₁ m₂ p₂ : ℕ) → 0 < C + D → m₁ < p₁ → m₂ < p₂ → C * p₁ + D * p₂ ≡ C * m₁ + D * m₂ → ⊥
unbalanced C D m₁ p₁ m₂ p₂ h a b e = omega (arith, mul-le-mul_left C a, mul-le-mul_left D b)

not_one_side : (p q r s : Place) → Common p q r s → one_side p q r s ≡ false
unfolding one_side left_of right_of
not_one_side p q r s w =
    is_false _
    (λ e.
    elim (either (left_of p q r && left_of p q s) (right_of p q r && right_of p q s) e) [
      | inl l ↦
          let h = both (left_of p q r) (left_of p q s) l in
          unbalanced w.C w.D _ _ _ _ (omega arith) (ltb-true _ _ h.0) (ltb-true _ _ h.1) (balance p q r s w)
      | inr l ↦
          let h = both (right_of p q r) (right_of p q s) l in
          unbalanced w.C w.D _ _ _ _ (omega arith) (ltb-true _ _ h.0) (ltb-true _ _ h.1) (sym (balance p q r s w))
    ])

-- a number k between two weighted means
mean : (A B C D a b c d k : ℕ) → 0 < A + B → A + B ≡ C + D → A * a + B * b ≡ C * c + D * d → a ≤ k → b ≤ k → k < c → k < d → ⊥
mean A B C D a b c d k pos tot e h₁ h₂ h₃ h₄ =
    omega (arith, mul-le-mul_left A h₁, mul-le-mul_left B h₂, mul-le-mul_left C h₃, mul-le-mul_left D h₄, ap (λ n. n * k) tot)

below : (A B C D a b c d : ℕ) → 0 < A + B → A + B ≡ C + D → A * a + B * b ≡ C * c + D * d → min c d ≤ max a b
below A B C D a b c d pos tot e =
    elim (dec_le (min c d) (max a b)) [
      | yes h ↦ h
      | no h ↦ absurd (mean A B C D a b c d (max a b) pos tot e (omega arith) (omega arith) (omega arith) (omega arith))
    ]

overlaps : (A B C D a b c d : ℕ) → 0 < A + B → A + B ≡ C + D → A * a + B * b ≡ C * c + D * d → overlap a b c d ≡ true
unfolding overlap
overlaps A B C D a b c d h t e =
    simp (le-leb (min a b) (max c d) (below C D A B c d a b (omega arith) (sym t) (sym e)), le-leb (min c d) (max a b) (below A B C D a b c d h t e))

pub common_meet : (p q r s : Place) → Common p q r s → meet p q r s ≡ true
unfolding meet
common_meet p q r s w = go (one_line p q r s)
  where
    go : (b : Bool) →
        (if b then overlap p.x q.x r.x s.x && overlap p.y q.y r.y s.y else not (one_side p q r s) && not (one_side r s p q)) ≡ true
    go true = simp (overlaps _ _ _ _ p.x q.x r.x s.x w.pos w.tot w.eqx, overlaps _ _ _ _ p.y q.y r.y s.y w.pos w.tot w.eqy)
    go false = simp (not_one_side p q r s w, not_one_side r s p q (flip w))
