-- What a line's moves ask of a drawing: its scale is at most 8, and its points and bends lie on the grid. A line that is there is seen, with its bend where it has one.
use Rattle.std.specs.Prelude.{ℕ, ◌<◌, ◌≤◌, ◌≡◌, refl, length, Ok}
use Rattle.std.proofs.Common.{arith, ap, ◌∙◌, lt-ltb, le-leb}
use Rattle.rules.specs.declared.Style.{Style}
use Rattle.rules.specs.declared.Style.TheVariants.{OneBend, Straight}
use Rattle.rules.specs.declared.Line.{Line}
use Rattle.rules.specs.declared.Place.{Place}
use Rattle.rules.specs.Styles as Rules
use Rattle.rules.specs.Points.{Drawing as Plan, place_of, line_at}
use Rattle.rules.specs.Ports.{bend_place}
use Rattle.rules.specs.Lookups.{look_point, look_line}
use Rattle.promise.specs.Standing.{Standing}
use Rattle.promise.proofs.Bounds.{width_most, place_most, bend_most}
use Rattle.store_links.specs.declared.Counts.{Counts}
use Rattle.store_links.specs.Arrays.{Arrays}
use Rattle.store_laws.specs.Adding.{Holds}
use Rattle.cutter_lines.specs.Grooves.{OnGrid, GrooveOnGrid}
use Rattle.answers.specs.Told.{point_seen, line_seen, seen_of}
use Rattle.answers.specs.declared.LineSeen.{LineSeen}
use Rattle.answers.specs.declared.LineSeen.TheVariants as Line
use Rattle.store_tables.specs.declared.Drawing.{Drawing}
use Rattle.drawing.specs.View.{Came}
use Rattle.store_settling.specs.Lines.{ends}
use Rattle.cutter_grooves.specs.Grooves.{bend_by, groove_of}

-- the line that was seen, and where it bends; of a straight line another place stands for that
abbrev pub line_in : LineSeen → Line
line_in (Line.Bent l b) = l
line_in (Line.Straight l) = l

abbrev pub bend_in : LineSeen → Place → Place
bend_in (Line.Bent l b) other = b
bend_in (Line.Straight l) other = other

-- A drawing that came from calls or an order file has a scale from 1 to 8.
pub scale : {d : Drawing} → Came d → (1 ≤ d.counts.s) × (d.counts.s ≤ 8)
scale w = rw w.is.stores.s w.reached.scale

-- A point lies on the grid,
point_on_grid : (q : Plan) → Standing q → (p : ℕ) → 1 ≤ p → p ≤ q.k → OnGrid (place_of q p)
point_on_grid q h p low high =
    let m = place_most q h p low high in
    let w = width_most q h in
    record { across = omega arith; up = omega arith }

-- and so does a line, with what stands for its bend.
pub groove_on_grid : (q : Plan) → Standing q → (e : ℕ) → e < length q.lines → GrooveOnGrid (groove_of q (line_at q e))
groove_on_grid q h e el =
    let p = ends h e el in
    let earlier = point_on_grid q h (line_at q e).earlier p.2 p.3 in
    record { later = point_on_grid q h (line_at q e).later p.0 p.1; bend = go q.style earlier; earlier = earlier }
  where
    bend : OnGrid (bend_place q (line_at q e))
    bend =
        let m = bend_most q h e el in
        let w = width_most q h in
        record { across = omega arith; up = omega arith }

    go : (τ : Style) → OnGrid (place_of q (line_at q e).earlier) → OnGrid (bend_by τ (bend_place q (line_at q e)) (place_of q (line_at q e).earlier))
    go OneBend g = bend
    go Straight g = g

module _ {q : Plan} {a : Arrays} {c : Counts} (h : Holds q a c) where
  -- A point that is there is seen at its place.
  pub place_seen : (p : ℕ) → 1 ≤ p → p ≤ c.k → point_seen (look_point q p) ≡ Ok (place_of q p)
  place_seen p low high = rw (le-leb 1 p low, le-leb p q.k (omega (arith, h.stores.k)))

  module _ (e : ℕ) (b : e < c.lines) where
    el : e < length q.lines
    el = omega (arith, h.stores.lines)

    -- It lies on the grid.
    pub stored_on_grid : GrooveOnGrid (groove_of q (line_at q e))
    stored_on_grid = groove_on_grid q h.standing e el

    -- Its ends are points.
    pub later_there : (l : Line) → l ≡ line_at q e → (1 ≤ l.later) × (l.later ≤ c.k)
    later_there l z = let p = ends h.standing e el in (rw z p.0, rw z (omega (arith, p.1, h.stores.k)))

    pub earlier_there : (l : Line) → l ≡ line_at q e → (1 ≤ l.earlier) × (l.earlier ≤ c.k)
    earlier_there l z = let p = ends h.standing e el in (rw z p.2, rw z (omega (arith, p.3, h.stores.k)))

    -- A line that is there is seen,
    pub line_sure : line_seen (look_line q e) ≡ Ok (seen_of (Rules.seen q.style (line_at q e) (bend_place q (line_at q e))))
    line_sure = rw (lt-ltb e (length q.lines) el)

    same : (r : LineSeen) → Ok r ≡ line_seen (look_line q e) → r ≡ seen_of (Rules.seen q.style (line_at q e) (bend_place q (line_at q e)))
    same r is = let z = line_sure in cc

    pub line_seen_lem : (r : LineSeen) → Ok r ≡ line_seen (look_line q e) → line_in r ≡ line_at q e
    line_seen_lem r is = ap line_in (same r is) ∙ go q.style
      where
        go : (τ : Style) → line_in (seen_of (Rules.seen τ (line_at q e) (bend_place q (line_at q e)))) ≡ line_at q e
        go OneBend = refl
        go Straight = refl

    -- and with its bend where it has one.
    pub bend_seen : (r : LineSeen) → Ok r ≡ line_seen (look_line q e) → (p : Place) → bend_in r p ≡ bend_by q.style (bend_place q (line_at q e)) p
    bend_seen r is p = ap (λ (s : LineSeen). bend_in s p) (same r is) ∙ go q.style
      where
        go : (τ : Style) → bend_in (seen_of (Rules.seen τ (line_at q e) (bend_place q (line_at q e)))) p ≡ bend_by τ (bend_place q (line_at q e)) p
        go OneBend = refl
        go Straight = refl
