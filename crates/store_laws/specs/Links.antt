-- The boundary by links and gaps after an accepted call: each point links to the next one, and lies its gap to the right of the one before.
use Rattle.std.specs.Prelude.{ℕ, suc, pred, ◌+◌, ◌-◌, ◌<◌, ◌≤◌, ◌≡◌, ◌≢◌, List, map, length}
use Rattle.std.proofs.Common.{ap, sym, ◌∙◌, arith}
use Rattle.rules.specs.Points.{Drawing, x_of, w, m}
use Rattle.rules.specs.Readings.{entry_of}
use Rattle.net.specs.Amounts.{moves, Shift, none, some, all, shift}
use Rattle.store_links.specs.declared.Spot.{Spot}
use Rattle.store_links.specs.declared.Counts.{Counts}
use Rattle.store_links.specs.Arrays.{Arrays, at_point}
use Rattle.store_links.specs.Placing.{entry_point, inner_count}
use Rattle.store_links.specs.Storing.{put_at, covered_gaps, with_point}
use Rattle.promise.specs.Index.{Outside, before, behind}
use Rattle.promise.specs.Border.{Stands, old, put, stands_next}
use Rattle.promise.specs.Moved.{amount1, amount2}
use Rattle.promise.specs.Places as Places
use Rattle.store_laws.specs.Puts.{put_same, put_other, length-put, length-gaps, gaps_out}
use Rattle.store_laws.specs.Reading.{entry_is}
use Rattle.store_laws.specs.Points.{Call, after, size, first_w, last_w, lm, w_low, w_differ, inner_in}

-- p and q are neighbours on the boundary after the call: both left of the run, wl and the new point, the new point and wr, or both right of the run
data Neighbours (d : Drawing) (l r p q : ℕ) : Type 0 where
  low : (j : ℕ) → suc j ≤ l → p ≡ w d j → q ≡ w d (suc j) → Neighbours d l r p q
  into : p ≡ w d l → q ≡ suc d.k → Neighbours d l r p q
  out : p ≡ suc d.k → q ≡ w d r → Neighbours d l r p q
  high : (j : ℕ) → r ≤ j → suc j < m d → p ≡ w d j → q ≡ w d (suc j) → Neighbours d l r p q

-- the gaps once the new point owns the inner points
abbrev pub gaps_over : Arrays → List ℕ → Spot → List ℕ
gaps_over a es p = covered_gaps a.gap es p (inner_count es)

module _ {d : Drawing} {a : Arrays} {c : Counts} {es : List ℕ} {l r : ℕ} {p : Spot} {from : ℕ} (h : Call d a c es l r p from) where
  -- ---- where the points lie after the call

  -- A boundary point moves by the amounts of its index.
  x_on : (i : ℕ) → i < m d → x_of (after d es l r) (w d i) ≡ x_of d (w d i) + moves l r (amount1 d l) (amount2 d l r) i
  x_on i im =
      let o = h.sound.core.points.on i im in
      Places.x_old d (map entry_of es) l r h.sound h.run (pred (w d i)) o.0 ∙
      ap (λ (n : ℕ). x_of d (w d i) + moves l r (amount1 d l) (amount2 d l r) n) o.1

  -- Up to wl the boundary stays.
  pub x_low : (i : ℕ) → i ≤ l → x_of (after d es l r) (w d i) ≡ x_of d (w d i)
  x_low i b = omega (arith, x_on i (omega (arith, lm h)), Places.still d (map entry_of es) l r h.sound h.run i b)

  -- Inside the run it moves by the first amount.
  pub x_inner : (i : ℕ) → l < i → i < r → x_of (after d es l r) (w d i) ≡ x_of d (w d i) + amount1 d l
  x_inner i b e = go (shift l r (amount1 d l) (amount2 d l r) i h.run.lr)
    where
      go : Shift l r (amount1 d l) (amount2 d l r) i → x_of (after d es l r) (w d i) ≡ x_of d (w d i) + amount1 d l
      go (none u v) = absurd (omega arith)
      go (some u u' v) = omega (arith, x_on i (omega (arith, h.run.rm)))
      go (all u v) = absurd (omega arith)

  -- From wr on it moves by all the amounts.
  pub x_high : (i : ℕ) → r ≤ i → i < m d → x_of (after d es l r) (w d i) ≡ x_of d (w d i) + (amount1 d l + amount2 d l r)
  x_high i b im = omega (arith, x_on i im, Places.rigid d (map entry_of es) l r h.sound h.run i b)

  -- The new point lies dx to the right of wl.
  pub x_new : x_of (after d es l r) (suc d.k) ≡ x_of d (w d l) + p.dx
  x_new = Places.x_new d (map entry_of es) l r h.sound h.run ∙ sym h.spotted.x

  -- And wr lies `rest` to the right of the new point.
  x_rest : x_of (after d es l r) (w d r) ≡ x_of (after d es l r) (suc d.k) + p.rest
  x_rest =
      omega (
        arith,
        h.spotted.rest,
        Places.x_new d (map entry_of es) l r h.sound h.run,
        Places.x_on d (map entry_of es) l r h.sound h.run r h.run.rm,
        x_on r h.run.rm,
      )

  -- ---- what the arrays hold

  -- A point's place in an array of 1,024.
  room_at : (q : ℕ) (t : List ℕ) → length t ≡ 1024 → q ≤ suc d.k → pred q < length t
  room_at q t e b = omega (arith, h.room)

  -- wl links to the new point.
  next_l : at_point (with_point a c es p from).next (w d l) ≡ suc d.k
  unfolding with_point
  next_l =
      let t = put_at a.next (suc d.k) (w d r) in
      rw (h.stores.k, first_w h, last_w h)
      (put_same t (w d l) (suc d.k) (room_at (w d l) t (length-put a.next (suc d.k) (w d r) ∙ h.sized.next) (omega (arith, w_low h l (lm h)))))

  -- The new point links to wr.
  next_new : at_point (with_point a c es p from).next (suc d.k) ≡ w d r
  unfolding with_point
  next_new =
      let b = w_low h l (lm h) in
      rw (h.stores.k, first_w h, last_w h)
      (put_other (put_at a.next (suc d.k) (w d r)) (w d l) (suc d.k) (suc d.k) b.0 (omega arith) (omega arith) ∙
      put_same a.next (suc d.k) (w d r) (room_at (suc d.k) a.next h.sized.next (omega arith)))

  -- Every other point keeps its link.
  next_other : (q : ℕ) → 0 < q → q ≢ w d l → q ≢ suc d.k → at_point (with_point a c es p from).next q ≡ at_point a.next q
  unfolding with_point
  next_other q z n n' =
      rw (h.stores.k, first_w h, last_w h)
      (put_other (put_at a.next (suc d.k) (w d r)) (w d l) q (suc d.k) (w_low h l (lm h)).0 z n ∙
      put_other a.next (suc d.k) q (w d r) (omega arith) z n')

  -- The gaps with the covered points' own have room for every point.
  length_over : (v : ℕ) → length (put_at (gaps_over a es p) (suc d.k) v) ≡ 1024
  length_over v = length-put (gaps_over a es p) (suc d.k) v ∙ length-gaps a.gap es p (inner_count es) ∙ h.sized.gap

  -- The gap of wr is `rest`.
  gap_r_lem : at_point (with_point a c es p from).gap (w d r) ≡ p.rest
  unfolding with_point
  gap_r_lem =
      let t = put_at (gaps_over a es p) (suc d.k) p.dx in
      rw (h.stores.k, last_w h)
      (put_same t (w d r) p.rest (room_at (w d r) t (length_over p.dx) (omega (arith, w_low h r h.run.rm))))

  -- The gap of the new point is dx.
  gap_new : at_point (with_point a c es p from).gap (suc d.k) ≡ p.dx
  unfolding with_point
  gap_new =
      let b = w_low h r h.run.rm in
      rw (h.stores.k, last_w h)
      (put_other (put_at (gaps_over a es p) (suc d.k) p.dx) (w d r) (suc d.k) p.rest b.0 (omega arith) (omega arith) ∙
      put_same (gaps_over a es p) (suc d.k) p.dx (room_at (suc d.k) (gaps_over a es p) (length-gaps a.gap es p (inner_count es) ∙ h.sized.gap) (omega arith)))

  -- At any other point stands what covering left there.
  pub gap_over : (q : ℕ) → 0 < q → q ≢ w d r → q ≢ suc d.k → at_point (with_point a c es p from).gap q ≡ at_point (gaps_over a es p) q
  unfolding with_point
  gap_over q z n n' =
      rw (h.stores.k, last_w h)
      (put_other (put_at (gaps_over a es p) (suc d.k) p.dx) (w d r) q p.rest (w_low h r h.run.rm).0 z n ∙
      put_other (gaps_over a es p) (suc d.k) q p.dx (omega arith) z n')

  -- A point that is neither wr nor covered nor new keeps its gap.
  pub gap_other : (q : ℕ) → 0 < q → q ≢ w d r → q ≢ suc d.k → ((j : ℕ) → 0 < j → j ≤ inner_count es → q ≢ entry_point es j) →
      at_point (with_point a c es p from).gap q ≡ at_point a.gap q
  gap_other q z n n' e = gap_over q z n n' ∙ gaps_out es c.k (inner_count es) h.within (inner_in h) a.gap p q z e

  -- So does a boundary point up to wl or after wr.
  gap_kept : (j : ℕ) → j < m d → j ≢ r → Outside l r j → at_point (with_point a c es p from).gap (w d j) ≡ at_point a.gap (w d j)
  gap_kept j jm n o =
      gap_other (w d j) (w_low h j jm).0 (w_differ h j r jm h.run.rm n) (omega (arith, w_low h j jm))
      (λ i z b e. let s : l + i < r = omega (arith, size h, h.run.lr) in w_differ h j (l + i) jm (omega (arith, h.run.rm)) (away i z s o) (e ∙ entry_is es h.run i (omega arith)))
    where
      away : (i : ℕ) → 0 < i → l + i < r → Outside l r j → j ≢ l + i
      away i z s (before b) = omega arith
      away i z s (behind b) = omega arith

  -- ---- the boundary after the call

  -- Two points that follow one another there are neighbours.
  neighbours : (i : ℕ) → suc i < m (after d es l r) → Neighbours d l r (w (after d es l r) i) (w (after d es l r) (suc i))
  neighbours i b =
      go (stands_next d (map entry_of es) l r h.sound h.run i (omega arith)) (stands_next d (map entry_of es) l r h.sound h.run (suc i) b)
    where
      next_to : (j k : ℕ) {q : ℕ} → q ≡ w d k → k ≡ suc j → q ≡ w d (suc j)
      next_to j k e n = e ∙ ap (w d) n

      go : {p q : ℕ} → Stands d.boundary l r (suc d.k) i p → Stands d.boundary l r (suc d.k) (suc i) q → Neighbours d l r p q
      go (old j jm (before o) e u) (old k km (before o') e' u') = low j (omega arith) u (next_to j k u' (omega arith))
      go (old j jm (before o) e u) (old k km (behind o') e' u') = absurd (omega (arith, h.run.lr))
      go (old j jm (behind o) e u) (old k km (before o') e' u') = absurd (omega (arith, h.run.lr))
      go (old j jm (behind o) e u) (old k km (behind o') e' u') = high j o (omega (arith, h.run.lr)) u (next_to j k u' (omega (arith, h.run.lr)))
      go (old j jm (before o) e u) (put e' u') = into (u ∙ ap (w d) (omega arith)) u'
      go (old j jm (behind o) e u) (put e' u') = absurd (omega (arith, h.run.lr))
      go (put e u) (old k km (before o') e' u') = absurd (omega (arith, h.run.lr))
      go (put e u) (old k km (behind o') e' u') = out u (u' ∙ ap (w d) (omega (arith, h.run.lr)))
      go (put e u) (put e' u') = absurd (omega arith)

  -- A boundary point but wl keeps its link.
  link_old : (j : ℕ) → suc j < m d → j ≢ l → at_point (with_point a c es p from).next (w d j) ≡ w d (suc j)
  link_old j b n =
      let t = w_low h j (omega arith) in
      next_other (w d j) t.0 (w_differ h j l (omega arith) (lm h) n) (omega arith) ∙ h.stores.link j b

  -- Each boundary point links to the next one.
  pub link_kept : (i : ℕ) → suc i < m (after d es l r) → at_point (with_point a c es p from).next (w (after d es l r) i) ≡ w (after d es l r) (suc i)
  link_kept i b = go (neighbours i b)
    where
      go : {u v : ℕ} → Neighbours d l r u v → at_point (with_point a c es p from).next u ≡ v
      go (low j b e e') = rw (e, e') (link_old j (omega (arith, lm h)) (omega arith))
      go (into e e') = rw (e, e') next_l
      go (out e e') = rw (e, e') next_new
      go (high j b b' e e') = rw (e, e') (link_old j b' (omega (arith, h.run.lr)))

  -- A boundary point but wr keeps its distance from the one before it, if both moved alike.
  gap_old : (j s : ℕ) → suc j < m d → suc j ≢ r → Outside l r (suc j) → x_of (after d es l r) (w d j) ≡ x_of d (w d j) + s →
      x_of (after d es l r) (w d (suc j)) ≡ x_of d (w d (suc j)) + s →
      x_of (after d es l r) (w d (suc j)) ≡ x_of (after d es l r) (w d j) + at_point (with_point a c es p from).gap (w d (suc j))
  gap_old j s b n o e e' = omega (arith, h.stores.step j b, gap_kept (suc j) b n o)

  -- Each boundary point lies its gap to the right of the one before it.
  pub step_kept : (i : ℕ) → suc i < m (after d es l r) →
      x_of (after d es l r) (w (after d es l r) (suc i)) ≡ x_of (after d es l r) (w (after d es l r) i) + at_point (with_point a c es p from).gap (w (after d es l r) (suc i))
  step_kept i b = go (neighbours i b)
    where
      go : {u v : ℕ} → Neighbours d l r u v → x_of (after d es l r) v ≡ x_of (after d es l r) u + at_point (with_point a c es p from).gap v
      go (low j b e e') =
          rw (e, e')
          (gap_old j 0 (omega (arith, lm h)) (omega (arith, h.run.lr)) (before b) (omega (arith, x_low j (omega arith))) (omega (arith, x_low (suc j) b)))
      go (into e e') = rw (e, e') (omega (arith, x_new, x_low l (omega arith), gap_new))
      go (out e e') = rw (e, e') (omega (arith, x_rest, gap_r_lem))
      go (high j b b' e e') =
          rw (e, e')
          (gap_old j (amount1 d l + amount2 d l r) b' (omega arith) (behind (omega arith)) (x_high j b (omega arith)) (x_high (suc j) (omega arith) b'))

  -- Point 2 is no point before wr.
  two_last : (j : ℕ) → suc j < m d → 2 ≢ w d j
  two_last j b e =
      let t : suc (m d - 1) ≡ m d = omega arith in
      let last : pred (w d (m d - 1)) ≡ 1 = h.sound.core.corners.last (m d - 1) t in
      w_differ h j (m d - 1) (omega arith) (omega arith) (omega arith) (omega arith)

  -- The last point links to none.
  pub last_kept : at_point (with_point a c es p from).next 2 ≡ 0
  last_kept =
      next_other 2 (omega arith) (two_last l (omega (arith, h.run.lr, h.run.rm))) (omega (arith, h.sound.core.corners.placed)) ∙ h.stores.last
