-- Differences of whole numbers as signed 64-bit numbers, and their signs. Assumes nothing.
use Rattle.std.specs.Prelude.{ℕ, zero, suc, ◌-◌, ◌≡◌, refl, ℤ, pos, negsuc, ◌-ℤ◌, Bool, true, false, not, ◌&&◌, cond, ltb}
use Rattle.std.proofs.Common.{sym, ap, ◌∙◌, add-zero, arith, ltb-true, ltb-false, lt-ltb, le-ltb, ne_eqb}
use mir.Syntax.{w64}
use mir.Val.{SFits}
use Rattle.rules.specs.declared.Place.{Place}
use Rattle.rules.specs.Meeting.{cross_plus, cross_minus, left_of, right_of, in_line}
use Rattle.plane.specs.Turning.{above_zero, at_zero, below_zero, Turns}

-- the signs of a - b
minus_above : (a b : ℕ) → above_zero (pos a -ℤ pos b) ≡ ltb b a
minus_above a zero = ap (ltb 0) (add-zero a)
minus_above a (suc b) = go (ltb a (suc b)) refl
  where
    more : (t : Bool) → ltb (suc b) a ≡ t → ltb 0 (a - suc b) ≡ t
    more true e = lt-ltb 0 (a - suc b) (omega (arith, ltb-true (suc b) a e))
    more false e = le-ltb 0 (a - suc b) (omega (arith, ltb-false (suc b) a e))

    go : (t : Bool) → ltb a (suc b) ≡ t → above_zero (cond t (negsuc (suc b - suc a)) (pos (a - suc b))) ≡ ltb (suc b) a
    go true e = sym (le-ltb (suc b) a (omega (arith, ltb-true a (suc b) e)))
    go false e = more (ltb (suc b) a) refl

minus_below : (a b : ℕ) → below_zero (pos a -ℤ pos b) ≡ ltb a b
minus_below a zero = ap (λ n. ltb n 0) (add-zero a)
minus_below a (suc b) = go (ltb a (suc b)) refl
  where
    go : (t : Bool) → ltb a (suc b) ≡ t → below_zero (cond t (negsuc (suc b - suc a)) (pos (a - suc b))) ≡ ltb a (suc b)
    go true e = sym e
    go false e = le-ltb (a - suc b) 0 (omega arith) ∙ sym e

-- a - b fits where a and b do
pub minus_fits : (a b : ℕ) → SFits w64 (pos a) → SFits w64 (pos b) → SFits w64 (pos a -ℤ pos b)
minus_fits a zero p q = record { sfits = omega arith }
minus_fits a (suc b) p q = go (ltb a (suc b)) refl
  where
    go : (t : Bool) → ltb a (suc b) ≡ t → SFits w64 (cond t (negsuc (suc b - suc a)) (pos (a - suc b)))
    go true e = record { sfits = omega arith }
    go false e = record { sfits = omega arith }

-- zero is neither above nor below
neither : (o : ℤ) → at_zero o ≡ (not (above_zero o) && not (below_zero o))
neither (pos zero) = refl
neither (pos (suc n)) = simp (lt-ltb 0 (suc n) (omega arith), ne_eqb (suc n) 0 (λ e. omega arith))
neither (negsuc n) = refl

pub turns : (p q r : Place) (o : ℤ) → o ≡ pos (cross_plus p q r) -ℤ pos (cross_minus p q r) → Turns p q r o
unfolding left_of right_of in_line
turns p q r o e =
    let a : above_zero o ≡ left_of p q r = ap above_zero e ∙ minus_above (cross_plus p q r) (cross_minus p q r) in
    let b : below_zero o ≡ right_of p q r = ap below_zero e ∙ minus_below (cross_plus p q r) (cross_minus p q r) in
    record { above = a; at = neither o ∙ simp (a, b); below = b }
