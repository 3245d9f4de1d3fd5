-- What the order reader's answer says of the drawing of the rules.
use Rattle.std.specs.Prelude.{ℕ, List, Ok}
use Rattle.rules.specs.declared.Style.{Style}
use Rattle.rules.specs.Refusals.{good, Answer}
use Rattle.rules.specs.Points.{Drawing as Plan}
use Rattle.rules.specs.OrderFile.{read_order}
use Rattle.rules.specs.DrawingFile.{drawing_bytes, draw_file}
use Rattle.store_tables.specs.declared.Drawing.{Drawing}
use Rattle.store_laws.specs.Stored.{Is}
use Rattle.exchange.specs.Built.{Whole}
use Rattle.exchange.specs.Demand2.{drawn_as}
use Rattle.exchange.specs.WholeRead.{whole_read}
use Rattle.read_orders.specs.Points.{Gave}
use Rattle.drawing.specs.View.{Came}
use Rattle.drawing.specs.Opens.{Gives}
use Rattle.write_files.specs.Outputs.{Wrote, Ended}
use Rattle.write_files.specs.Finishing.{IsReached}

-- a drawing that came so has its files
pub reached_in : {d : Drawing} → Came d → IsReached d
reached_in c = record { plan = c.plan; reached = c.reached; is = c.is }

module _ (τ : Style) (f : List ℕ) {d : Drawing} (g : Gave (read_order τ f) d (Ok tt)) where
  -- An accepted order file gives the drawing that is stored,
  pub given : Gives (read_order τ f) (Ok d)
  given =
      let o = g.gives in
      record { answer = rw o.given; drawing = rw o.given (o.is, record { plan = o.plan; reached = (whole_read τ f o.plan o.given).reached; is = o.is }) }

  -- which is whole,
  pub ended : Ended d
  ended = let o = g.gives in record { plan = o.plan; whole = whole_read τ f o.plan o.given; is = o.is }

  -- and whose file is the file drawn.
  pub drawn : {before after : List ℕ} {w : Answer ℕ} → ((q : Plan) → Whole q → Is q d → Wrote before (good (drawing_bytes q)) after w) → Wrote before (draw_file τ f) after w
  drawn wrote = let o = g.gives in let w = whole_read τ f o.plan o.given in rw (drawn_as τ f o.plan w o.given) (wrote o.plan w o.is)
