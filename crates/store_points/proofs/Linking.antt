-- A point that is stored again with two numbers changed leaves the other columns; and what storing the new point and its neighbours makes.
use Rattle.std.proofs.Common.{ℕ, pred, ◌≡◌, List}
use Rattle.std.proofs.lemmas.List.{set-get_or}
use Rattle.rules.specs.declared.Style.{Style}
use Rattle.rules.specs.Styles.{taken}
use Rattle.store_links.specs.declared.Spot.{Spot}
use Rattle.store_links.specs.Arrays.{Arrays, at_point}
use Rattle.store_links.specs.Storing.{put_at}
use Rattle.store_tables.specs.declared.Point.{Point}
use Rattle.store_tables.specs.Columns.{point_at, put_point}
use Rattle.store_points.specs.Stages.{linked, ported}

module _ (a : Arrays) (p : ℕ) {q : Point} (e : q ≡ point_at a p) where
  same : (l : List ℕ) → put_at l p (at_point l p) ≡ l
  same l = set-get_or l (pred p) 0

  -- a covered point
  pub recovered : (g v : ℕ) → put_point a p (record q { gap = g; owner = v }) ≡ record a { gap = put_at a.gap p g; owner = put_at a.owner p v }
  recovered g v = rw e (λ j.
      record (put_point a p (record (point_at a p) { gap = g; owner = v })) { next = same a.next j; ys = same a.ys j; dls = same a.dls j; drs = same a.drs j; hs = same a.hs j })

  -- the left neighbour
  pub left : (n r : ℕ) → put_point a p (record q { next = n; dr = r }) ≡ record a { next = put_at a.next p n; drs = put_at a.drs p r }
  left n r = rw e (λ j.
      record (put_point a p (record (point_at a p) { next = n; dr = r })) { gap = same a.gap j; owner = same a.owner j; ys = same a.ys j; dls = same a.dls j; hs = same a.hs j })

  -- the right neighbour
  pub right : (g l : ℕ) → put_point a p (record q { gap = g; dl = l }) ≡ record a { gap = put_at a.gap p g; dls = put_at a.dls p l }
  right g l = rw e (λ j.
      record (put_point a p (record (point_at a p) { gap = g; dl = l })) { next = same a.next j; owner = same a.owner j; ys = same a.ys j; drs = same a.drs j; hs = same a.hs j })

-- The new point v at the spot p, then wl, then wr.
pub all_linked : (style : Style) (a : Arrays) (v wl wr : ℕ) (p : Spot) {b c d : Arrays} {rights lefts : ℕ} →
    b ≡ put_point a v (record { next = wr; gap = p.dx; owner = 0; y = p.y; dl = 0; dr = 0; h = p.h }) →
    c ≡ record b { next = put_at b.next wl v; drs = put_at b.drs wl rights } →
    d ≡ record c { gap = put_at c.gap wr p.rest; dls = put_at c.dls wr lefts } →
    rights ≡ taken style (at_point a.drs wl) → lefts ≡ taken style (at_point a.dls wr) → d ≡ ported style (linked a v wl wr p) v wl wr
all_linked style a v wl wr p hb hc hd hr hl = rw (hd, hc, hb, hr, hl)
