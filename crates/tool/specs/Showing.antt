-- A move as f32: a float shows a whole number of eighths if the float's value times 8 is the whole number, with no error.
use Rattle.std.specs.Prelude.{◌≡◌, ℕ, true, false, List, [], ◌∷◌, pos, from_bits, Float}
use Rattle.std.specs.Float.{fin, binary32}
use Rattle.std.specs.Float.Ieee.{div, of_int, neg}
use Rattle.std.specs.Float.Ieee.Exact.{HasValue}
use Rattle.rules.specs.Moves.{Move as WholeMove, travel, plunge, cut, lift}
use Rattle.tool.specs.declared.Move.{Move}
use Rattle.tool.specs.declared.Move.TheVariants.{Travel, Plunge, Cut, Lift}

-- the move of floats is the move of whole numbers: each float's value times 8 is the whole number, for a plunge minus the whole number
abbrev pub Shows : Move → WholeMove → Type 0
Shows (Travel x y) (travel a b) = HasValue x false a 8 × HasValue y false b 8
Shows (Plunge z) (plunge d) = HasValue z true d 8
Shows (Cut x y) (cut a b) = HasValue x false a 8 × HasValue y false b 8
Shows (Lift z) (lift c) = HasValue z false c 8
Shows (Travel x y) (plunge d) = ⊥
Shows (Travel x y) (cut a b) = ⊥
Shows (Travel x y) (lift c) = ⊥
Shows (Plunge z) (travel a b) = ⊥
Shows (Plunge z) (cut a b) = ⊥
Shows (Plunge z) (lift c) = ⊥
Shows (Cut x y) (travel a b) = ⊥
Shows (Cut x y) (plunge d) = ⊥
Shows (Cut x y) (lift c) = ⊥
Shows (Lift z) (travel a b) = ⊥
Shows (Lift z) (plunge d) = ⊥
Shows (Lift z) (cut a b) = ⊥

-- the whole number as an f32, divided by 8
unfoldable pub over_eight : ℕ → Float
over_eight n = div binary32 (of_int binary32 (pos n)) (fin false 1 (pos 3))

-- a move of whole numbers of eighths in f32
abbrev pub in_floats : WholeMove → Move
in_floats (travel a b) = Travel (over_eight a) (over_eight b)
in_floats (plunge d) = Plunge (neg (over_eight d))
in_floats (cut a b) = Cut (over_eight a) (over_eight b)
in_floats (lift c) = Lift (over_eight c)

-- the move of floats is the move of whole numbers: in f32, and with no error
abbrev pub IsMove : Move → WholeMove → Type 0
IsMove m v = (m ≡ in_floats v) × Shows m v

-- ---- a move as C is told it

-- 1 travel, 2 plunge, 3 cut, 4 lift
abbrev pub move_kind : Move → ℕ
move_kind (Travel x y) = 1
move_kind (Plunge z) = 2
move_kind (Cut x y) = 3
move_kind (Lift z) = 4

-- two coordinates, or a height and 0
abbrev pub move_numbers : Move → List Float
move_numbers (Travel x y) = x ∷ y ∷ []
move_numbers (Plunge z) = z ∷ from_bits binary32 0 ∷ []
move_numbers (Cut x y) = x ∷ y ∷ []
move_numbers (Lift z) = z ∷ from_bits binary32 0 ∷ []
