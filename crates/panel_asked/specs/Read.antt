-- What an order file was read into is the drawing that the rules give.
use Rattle.std.specs.Prelude.{ℕ, ◌≡◌, refl, List}
use Rattle.rules.specs.declared.Style.{Style}
use Rattle.rules.specs.Refusals.{Result, good, refused, Answer}
use Rattle.rules.specs.Points.{Drawing as Plan}
use Rattle.rules.specs.OrderFile.{read_order}
use Rattle.exchange.specs.WholeRead.{whole_read}
use Rattle.store_tables.specs.declared.Drawing.{Drawing}
use Rattle.read_orders.specs.Points.{Gave, gave-good, gave-refused}
use Rattle.panel_asked.specs.Asking.{Drew, HasDrawing, has-drew}

module _ (τ : Style) (f : List ℕ) (d : Drawing) {a : Answer (Unit {0})} (g : Gave (read_order τ f) d a) where
  -- What the rules give was drawn,
  pub drew-read : Drew (read_order τ f) d a
  drew-read = go (read_order τ f) refl
    where
      go : (o : Result Plan) → read_order τ f ≡ o → Drew o d a
      go (good q) e = let h = gave-good g q e in (h.0, (whole_read τ f q e).reached, h.1)
      go (refused r p) e = gave-refused g r p e

  -- and an accepted file has its drawing.
  pub came-read : HasDrawing a d
  came-read = has-drew (read_order τ f) drew-read
