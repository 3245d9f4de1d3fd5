-- What reading a record finds where it was written.
use Rattle.std.specs.Prelude.{ℕ, ◌≡◌, List, length}
use Rattle.rules.specs.Records.{Size, plain, counted, Found}

-- what is found where the numbers ws were written
abbrev pub found : ℕ → List ℕ → ℕ → List ℕ → Found
found place ws next rest = record { place = place; words = ws; next = record { offset = next; bytes = rest } }

-- the numbers that a record of this size may hold
abbrev pub Fits : Size → List ℕ → Type 0
Fits (plain c) ws = length ws ≡ c
Fits counted ws = Unit {0}
