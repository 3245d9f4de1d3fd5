-- The two numbers of a move, stored into a list.
use Rattle.std.specs.Prelude.{ℕ, ◌+◌, ◌≡◌, List, get_or, set, Float}
use Rattle.std.proofs.Common.{add-one}
use Rattle.std.proofs.lemmas.List.Edits.{sets}
use Rattle.tool.specs.declared.Move.{Move}
use Rattle.tool.specs.declared.Move.TheVariants.{Travel, Plunge, Cut, Lift}
use Rattle.tool.specs.Showing.{move_numbers}

-- a move's two numbers, stored one by one
pub pair-stored : (l p : List Float) (at : ℕ) (m : Move) (z : Float) → p ≡ move_numbers m → set (set l at (get_or p 0 z)) (at + 1) (get_or p 1 z) ≡ sets l at (move_numbers m)
pair-stored l p at (Travel x y) z e = rw (e, add-one at)
pair-stored l p at (Plunge y) z e = rw (e, add-one at)
pair-stored l p at (Cut x y) z e = rw (e, add-one at)
pair-stored l p at (Lift y) z e = rw (e, add-one at)
