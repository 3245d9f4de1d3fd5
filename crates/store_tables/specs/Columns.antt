-- A table's points, seen by their columns.
use Rattle.std.specs.Prelude.{ℕ, pred, ◌-◌, ◌≡◌, map, set, get_or}
use Rattle.std.proofs.Common.{sym, ap, ◌∙◌, sub-one}
use Rattle.std.proofs.Math.ListN.{get_or-map}
use Rattle.std.proofs.lemmas.List.{map-set}
use Rattle.store_links.specs.Arrays.{Arrays, at_point}
use Rattle.store_links.specs.Storing.{put_at}
use Rattle.store_tables.specs.declared.Point.{Point}
use Rattle.store_tables.specs.declared.Table.{Table}
use Rattle.store_tables.specs.Tables.{arrays_in, no_point}

-- what the arrays hold of point p
abbrev pub point_at : Arrays → ℕ → Point
point_at a p =
    record {
      next = at_point a.next p;
      gap = at_point a.gap p;
      owner = at_point a.owner p;
      y = at_point a.ys p;
      dl = at_point a.dls p;
      dr = at_point a.drs p;
      h = at_point a.hs p;
    }

-- the arrays with v as point p
abbrev pub put_point : Arrays → ℕ → Point → Arrays
put_point a p v =
    record a {
      next = put_at a.next p v.next;
      gap = put_at a.gap p v.gap;
      owner = put_at a.owner p v.owner;
      ys = put_at a.ys p v.y;
      dls = put_at a.dls p v.dl;
      drs = put_at a.drs p v.dr;
      hs = put_at a.hs p v.h;
    }

-- A point is what the columns hold of it.
pub point_read : (t : Table) (p : ℕ) → get_or t.points (p - 1) no_point ≡ point_at (arrays_in t) p
point_read t p =
    let at : (f : Point → ℕ) → f (get_or t.points (p - 1) no_point) ≡ get_or (map f t.points) (pred p) (f no_point) =
    λ f. sym (get_or-map f t.points (p - 1) no_point) ∙ ap (λ i. get_or (map f t.points) i (f no_point)) (sub-one p) in
    λ j. record {
      next = at (λ p. p.next) j;
      gap = at (λ p. p.gap) j;
      owner = at (λ p. p.owner) j;
      y = at (λ p. p.y) j;
      dl = at (λ p. p.dl) j;
      dr = at (λ p. p.dr) j;
      h = at (λ p. p.h) j;
    }

-- A point that is stored gives its numbers to the columns.
pub point_stored : (t : Table) (p : ℕ) (v : Point) → arrays_in (record t { points = set t.points (p - 1) v }) ≡ put_point (arrays_in t) p v
point_stored t p v =
    let at : (f : Point → ℕ) → map f (set t.points (p - 1) v) ≡ put_at (map f t.points) p (f v) =
    λ f. map-set f t.points (p - 1) v ∙ ap (λ i. set (map f t.points) i (f v)) (sub-one p) in
    λ j. record (arrays_in t) {
      next = at (λ p. p.next) j;
      gap = at (λ p. p.gap) j;
      owner = at (λ p. p.owner) j;
      ys = at (λ p. p.y) j;
      dls = at (λ p. p.dl) j;
      drs = at (λ p. p.dr) j;
      hs = at (λ p. p.h) j;
    }
