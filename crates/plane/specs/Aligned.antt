-- Four places on one straight line, as equations between cross products.
use Rattle.std.specs.Prelude.{◌≡◌, Bool, true, not, ◌&&◌, ◌≤◌}
use Rattle.std.proofs.Common.{arith, ltb-false, le-ltb}
use Rattle.std.proofs.lemmas.Bool.{not-true}
use Rattle.rules.specs.declared.Place.{Place}
use Rattle.rules.specs.Meeting.{cross_plus, cross_minus, left_of, right_of, in_line, one_line}
use Rattle.rules.specs.Bools.{both}

-- each end of a piece is in line with the other piece
pub record Aligned (p q r s : Place) : Type 0 where
  pub r_on : cross_plus p q r ≡ cross_minus p q r
  pub s_on : cross_plus p q s ≡ cross_minus p q s
  pub p_on : cross_plus r s p ≡ cross_minus r s p
  pub q_on : cross_plus r s q ≡ cross_minus r s q

-- `in_line` and `one_line` as equations
pub on_test : (p q r : Place) → cross_plus p q r ≡ cross_minus p q r → in_line p q r ≡ true
unfolding in_line left_of right_of
on_test p q r e = simp (le-ltb (cross_minus p q r) (cross_plus p q r) (omega arith), le-ltb (cross_plus p q r) (cross_minus p q r) (omega arith))

pub test_on : (p q r : Place) → in_line p q r ≡ true → cross_plus p q r ≡ cross_minus p q r
unfolding in_line left_of right_of
test_on p q r e =
    let h = both (not (left_of p q r)) (not (right_of p q r)) e in
    let a : cross_plus p q r ≤ cross_minus p q r = ltb-false _ _ (not-true (left_of p q r) h.0) in
    let b : cross_minus p q r ≤ cross_plus p q r = ltb-false _ _ (not-true (right_of p q r) h.1) in
    omega arith

pub aligned_test : (p q r s : Place) → Aligned p q r s → one_line p q r s ≡ true
unfolding one_line
aligned_test p q r s h = simp (on_test p q r h.r_on, on_test p q s h.s_on, on_test r s p h.p_on, on_test r s q h.q_on)

-- four tests at once
pub all_four : (a b c d : Bool) → (a && b && c && d) ≡ true → (a ≡ true) × (b ≡ true) × (c ≡ true) × (d ≡ true)
all_four a b c d e =
    let h₁ = both (a && b && c) d e in
    let h₂ = both (a && b) c h₁.0 in
    let h₃ = both a b h₂.0 in
    (h₃.0, h₃.1, h₂.1, h₁.1)

pub test_aligned : (p q r s : Place) → one_line p q r s ≡ true → Aligned p q r s
unfolding one_line
test_aligned p q r s e =
    let h = all_four (in_line p q r) (in_line p q s) (in_line r s p) (in_line r s q) e in
    record { r_on = test_on p q r h.0; s_on = test_on p q s h.1; p_on = test_on r s p h.2; q_on = test_on r s q h.3 }
