-- What opening gives: the drawing as opened, or the refusal.
use Rattle.std.specs.Prelude.{ℕ, ◌≤◌, ◌≡◌, refl, true, false, Ok, Err}
use Rattle.std.proofs.Common.{le-leb}
use Rattle.rules.specs.declared.Style.{Style}
use Rattle.rules.specs.declared.Kind.TheVariants.{Plain}
use Rattle.rules.specs.declared.Refusal.TheVariants.{OutOfRange}
use Rattle.rules.specs.Basics.{between}
use Rattle.rules.specs.Refusals.{Result, good, refused, Answer, refusal_at, told, ◌>>◌}
use Rattle.rules.specs.Points.{Drawing as Plan, opening, opened}
use Rattle.store_links.specs.Opening.{open_arrays, open_counts}
use Rattle.store_laws.specs.Stored.{Is}
use Rattle.store_tables.specs.declared.Drawing.{Drawing}
use Rattle.store_tables.specs.Tables.{arrays_in}
use Rattle.promise.proofs.Bounds.{standing-start}
use Rattle.exchange.specs.Reaching.{reached-opening}
use Rattle.store_laws.specs.Opened.{sized_open, stores_open}
use Rattle.drawing.specs.View.{Came, told_drawing}

-- the drawing that goes with what the rules give; none goes with a refusal
abbrev pub DrawingOf : Result Plan → Answer Drawing → Type 0
DrawingOf (good p) (Ok d) = Is p d × Came d
DrawingOf (good p) (Err e) = ⊥
DrawingOf (refused r p) (Ok d) = ⊥
DrawingOf (refused r p) (Err e) = Unit {0}

-- r says what the rules give, in document 01's numbers, and has the drawing that goes with it
pub record Gives (o : Result Plan) (r : Answer Drawing) : Type 0 where
  pub answer : told_drawing r ≡ told (o >> good tt)
  pub drawing : DrawingOf o r

-- What was accepted came so.
pub came-given : {o : Result Plan} {d : Drawing} → Gives o (Ok d) → Came d
came-given {o} {d} g = go o g.drawing
  where
    go : (o : Result Plan) → DrawingOf o (Ok d) → Came d
    go (good p) h = h.1
    go (refused f p) h = absurd h

abbrev pub Opens : Style → ℕ → Answer Drawing → Type 0
Opens τ n r = Gives (opened τ n) r

-- Refused: too few points, or too many.
pub refuses : (τ : Style) (n : ℕ) → between 3 1024 n ≡ false → Opens τ n (Err (refusal_at OutOfRange 0))
refuses τ n e = record { answer = rw e; drawing = rw e tt }

-- d is the drawing as the program opens it: all three lines are cut
pub record OpenFor (τ : Style) (n : ℕ) (d : Drawing) : Type 0 where
  pub arrays : arrays_in d.table ≡ open_arrays τ 1 1 2
  pub counts : d.counts ≡ open_counts τ n 1

module _ (τ : Style) (n : ℕ) (low : 3 ≤ n) (high : n ≤ 1024) {d : Drawing} (o : OpenFor τ n d) where
  open_is : Is (opening τ n) d
  open_is =
      rw (o.arrays, o.counts)
      (record {
        standing = standing-start τ n 1 Plain Plain Plain low high;
        sized = sized_open τ n 1 Plain Plain Plain 1 1 2;
        stores = stores_open τ n 1 Plain Plain Plain 1 1 2 refl refl refl;
      })

  -- Accepted.
  pub opens : Opens τ n (Ok d)
  opens =
      let e : between 3 1024 n ≡ true = rw (le-leb 3 n low, le-leb n 1024 high) in
      record { answer = rw e; drawing = rw e (open_is, record { plan = opening τ n; reached = reached-opening τ n low high; is = open_is }) }
