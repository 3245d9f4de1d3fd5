-- WISH 4 AND THE DRAWING RULES: what the order files that the import writes come to. (That they do, `import_drawable` and `import_drawn`, is in proofs/.)
use Rattle.std.specs.Prelude.{ℕ, ◌≡◌, true, List}
use Rattle.rules.specs.declared.Style.{Style}
use Rattle.rules.specs.Refusals.{good}
use Rattle.rules.specs.Points.{Drawing}
use Rattle.rules.specs.OrderFile.{read_order}
use Rattle.rules.specs.DrawingFile.{drawing_bytes, draw_file}
use Rattle.promise.specs.Promise.{Promised}
use Rattle.exchange.specs.Built.{Whole}
use Rattle.planar_rules.specs.PlanarCode.{Flat, net_of, formed?, taken?, Import, import_of}
use Rattle.planar_drawn.specs.SameNet.{SameNet}

-- The order file is that of a drawing of the net f.
pub record Drawable (τ : Style) (f : Flat) (order : List ℕ) : Type 0 where
  -- it is read, to the last point, and drawn
  pub drawing : Drawing
  pub read : read_order τ order ≡ good drawing
  pub whole : Whole drawing
  pub drawn : draw_file τ order ≡ good (drawing_bytes drawing)
  -- the drawing keeps demand 3, or wish 2
  pub promised : Promised τ drawing
  -- and has the points and lines of the net
  pub same : SameNet f drawing

-- an import that answers passed its tests
pub record Passed (file : List ℕ) (i : Import) : Type 0 where
  pub formed : formed? file ≡ true
  pub taken : taken? (net_of file) ≡ true
  pub is : import_of (net_of file) ≡ i
