-- A word's number, digit by digit.
use Rattle.std.specs.Prelude.{ℕ, ◌+◌, ◌-◌, ◌*◌, ◌≤◌, ◌<◌, ◌≡◌, true, false, List, length, drop, get_or, Some, None}
use Rattle.std.proofs.Common.{add-one, drop_of_length-le, drop-cons}
use Rattle.rules.specs.Decimal.{is_digit}
use Rattle.printing_words.specs.Numbers.{digits_from}

module _ (v : ℕ) (w : List ℕ) (i : ℕ) where
  -- byte i isn't a digit
  pub number_none : i < length w → is_digit (get_or w i 0) ≡ false → digits_from v (drop i w) ≡ None
  number_none h e = rw (drop-cons w i 0 h, e)

  -- it is one
  pub number_next : i < length w → is_digit (get_or w i 0) ≡ true → digits_from v (drop i w) ≡ digits_from (10 * v + (get_or w i 0 - 48)) (drop (i + 1) w)
  number_next h e = rw (drop-cons w i 0 h, e, add-one i)

-- there is no byte i
pub number_all : (v : ℕ) (w : List ℕ) (i : ℕ) → length w ≤ i → digits_from v (drop i w) ≡ Some v
number_all v w i h = rw (drop_of_length-le w h)
