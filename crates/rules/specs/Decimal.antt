-- A number in decimal digits, as the programs print it: most significant digit first, no zero in front, in ASCII.
use Rattle.std.specs.Prelude.{ℕ, zero, suc, ◌+◌, ◌-◌, ◌*◌, ◌/◌, ◌%◌, Bool, List, [], ◌∷◌, ltb, if◌then◌else◌}
use Rattle.rules.specs.Basics.{between, snoc}

-- the ASCII code of a digit
abbrev pub digit : ℕ → ℕ
digit v = 48 + v

-- the digits of v where it has at most `most` of them
abbrev pub digits_in : ℕ → ℕ → List ℕ
digits_in zero v = []
digits_in (suc most) v = if ltb v 10 then digit v ∷ [] else snoc (digits_in most (v / 10)) (digit (v % 10))

-- the digits of v: it has never more than v + 1 of them
unfoldable pub digits : ℕ → List ℕ
digits v = digits_in (suc v) v

-- the number that digits stand for, behind those that stood for v
abbrev pub value_from : ℕ → List ℕ → ℕ
value_from v [] = v
value_from v (d ∷ ds) = value_from (10 * v + (d - 48)) ds

-- a byte that is a digit
abbrev pub is_digit : ℕ → Bool
is_digit = between (digit 0) (digit 9)
