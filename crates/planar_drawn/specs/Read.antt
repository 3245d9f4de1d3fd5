-- The drawing of an imported net (that its order file is read, in both styles, and that the drawing is whole, is in proofs/).
use Rattle.std.specs.Prelude.{ℕ, ◌≡◌, List, map}
use Rattle.rules.specs.declared.Style.{Style}
use Rattle.rules.specs.declared.Entry.{Entry}
use Rattle.rules.specs.Points.{Drawing}
use Rattle.exchange.specs.Built.{Built, Whole}
use Rattle.exchange.specs.Entries.{every}
use Rattle.planar_rules.specs.PlanarCode.{Flat, points, vertices}
use Rattle.planar_order.specs.Theorem.{entries_of}
use Rattle.planar_drawn.specs.Growing.{plains, second, third}

-- the entries of all points, as point numbers
abbrev pub all_entries : Flat → List (List ℕ)
all_entries f = entries_of (vertices (points f)) (points f)

-- a whole drawing, built of the entries of all points of a net
pub record DrawnOf (τ : Style) (f : Flat) : Type 0 where
  pub drawing : Drawing
  pub rest : List (List Entry)
  pub built : Built τ f.n 1 second third rest drawing
  pub entries : every second third rest ≡ map plains (all_entries f)
  pub whole : Whole drawing
