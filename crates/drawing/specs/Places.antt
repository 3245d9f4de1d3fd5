-- A drawing with the x of every placed point.
use Rattle.std.specs.Prelude.{ℕ, List}
use Rattle.store_settling.specs.Placed.{Settled}
use Rattle.store_tables.specs.declared.Drawing.{Drawing}
use Rattle.store_tables.specs.Tables.{arrays_in}
use Rattle.store_looking.specs.Places.{Looks}
use Rattle.drawing.specs.declared.Placed.{Placed}
use Rattle.drawing.specs.View.{Came, stored}

-- d came so, and x is settled
pub record PlacedIn (d : Drawing) (x : List ℕ) : Type 0 where
  pub came : Came d
  pub settled : Settled x (arrays_in d.table) d.counts.k

-- a drawing that came so, with its x settled
abbrev pub IsPlaced : Placed → Type 0
IsPlaced v = PlacedIn v.drawing v.x

-- One can be looked into.
pub looks : {d : Drawing} {x : List ℕ} → PlacedIn d x → Looks d x
looks p = (stored p.came, p.settled)
