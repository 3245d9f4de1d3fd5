-- From the records of points 1 to 3 to the rest: the drawing as opened stores what these begin.
use Rattle.std.specs.Prelude.{ℕ, ◌-◌, ◌≡◌, List, [], ◌∷◌}
use Rattle.std.proofs.Common.{sym, subst}
use Rattle.rules.specs.declared.Style.{Style}
use Rattle.rules.specs.Refusals.{Answer, Result}
use Rattle.rules.specs.Readings.{entry_of}
use Rattle.rules.specs.Points.{Drawing as Plan}
use Rattle.rules.specs.OrderFile.{start_with, read_points}
use Rattle.store_links.specs.Judging.{point_in}
use Rattle.store_links.specs.Opening.{open_arrays, open_counts}
use Rattle.promise.proofs.Bounds.{standing-start}
use Rattle.store_laws.specs.Opened.{sized_open, stores_open}
use Rattle.store_laws.specs.Stored.{Is, Stored}
use Rattle.store_tables.specs.declared.Drawing.{Drawing}
use Rattle.store_tables.specs.Tables.{arrays_in}
use Rattle.read_records.specs.Cursors.{cursor}
use Rattle.read_start.specs.Starting.{points_from, Begun}
use Rattle.read_orders.specs.Points.{Gave, RestRead, Headed}

-- an entry is its point and its kind
entry_is : (w p : ℕ) → point_in w ≡ p → entry_of w ≡ record { point = p; kind = (entry_of w).kind }
entry_is w p h = λ i. record { point = h i; kind = (entry_of w).kind }

-- the drawing that their entries begin
abbrev begin : Style → ℕ → ℕ → ℕ → ℕ → ℕ → Plan
begin τ n s a b c = start_with τ n s (entry_of a ∷ []) (entry_of b ∷ entry_of c ∷ [])

module _ (f : List ℕ) (at : ℕ) {n : ℕ} {none : Drawing} (z : Headed n none) (τ : Style) (s : ℕ) where
  -- points 1 to 3 are there
  module _ {a b c next : ℕ} (begun : Begun f (points_from (cursor f at)) a b c next) where
    -- the drawing as opened
    module _ (d : Drawing) (opened : (arrays_in d.table ≡ open_arrays τ a b c) × (d.counts ≡ open_counts τ n s)) where
      held : Is (begin τ n s a b c) d
      held =
          rw (opened.0, opened.1)
          (record {
            standing = standing-start τ n s (entry_of a).kind (entry_of b).kind (entry_of c).kind z.low z.high;
            sized = sized_open τ n s (entry_of a).kind (entry_of b).kind (entry_of c).kind a b c;
            stores =
                stores_open τ n s (entry_of a).kind (entry_of b).kind (entry_of c).kind a b c (entry_is a 1 begun.first) (entry_is b 1 begun.second) (entry_is c 2 begun.third);
          })

      -- the rest can be read, and gives all
      pub start-ready : Stored d
      start-ready = record { d = begin τ n s a b c; holds = held }

      pub start_gave : (d' : Drawing) (v : Answer (Unit {0})) → RestRead f next (n - 3) d d' v → Gave (read_points τ n s (cursor f at)) d' v
      start_gave d' v g = subst (λ (o : Result Plan). Gave o d' v) (sym (begun.rest τ n s)) (g (begin τ n s a b c) held)
