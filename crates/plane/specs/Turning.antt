-- Which way a signed number says that r lies from the line from p to q.
use Rattle.std.specs.Prelude.{◌≡◌, Bool, false, eqb, ℤ, pos, negsuc}
use Rattle.std.specs.Int.Signed.{lt_z}
use Rattle.rules.specs.declared.Place.{Place}
use Rattle.rules.specs.Meeting.{left_of, right_of, in_line}

abbrev pub above_zero : ℤ → Bool
above_zero o = lt_z (pos 0) o

abbrev pub at_zero : ℤ → Bool
at_zero (pos n) = eqb n 0
at_zero (negsuc n) = false

abbrev pub below_zero : ℤ → Bool
below_zero o = lt_z o (pos 0)

-- above zero exactly where r lies to the left, at zero exactly where it lies on the line, below zero exactly where it lies to the right
pub record Turns (p q r : Place) (o : ℤ) : Type 0 where
  pub above : above_zero o ≡ left_of p q r
  pub at : at_zero o ≡ in_line p q r
  pub below : below_zero o ≡ right_of p q r
