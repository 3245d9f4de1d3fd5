-- Steps 1 to 4 by distances: the new point lies dx to the right of wl at height y, and wr lies `total` to the right of wl then.
use Rattle.std.specs.Prelude.{ℕ, pred, ◌+◌, ◌-◌, ◌*◌, ◌/◌, ◌%◌, ◌<◌, ◌≤◌, ◌≡◌, List, map, length}
use Rattle.std.proofs.Math.Path.{refl, sym, ap}
use Rattle.std.proofs.Common.{ap₂, ◌∙◌, arith}
use Rattle.rules.specs.declared.Style.{Style}
use Rattle.rules.specs.Styles.{amount, inset}
use Rattle.rules.specs.Points.{Drawing, x_of, y_of, dl_of, dr_of, w, W}
use Rattle.rules.specs.Readings.{entry_of}
use Rattle.rules.specs.Adding.{spread, new_x, new_y, A, B, s3, step1, step2}
use Rattle.store_links.specs.declared.Counts.{Counts}
use Rattle.store_links.specs.declared.Spot.{Spot}
use Rattle.store_links.specs.Arrays.{Arrays, Stores, at_point}
use Rattle.store_links.specs.Placing.{entry_point, way, total, spot_of}
use Rattle.store_links.specs.Storing.{spot_for}
use Rattle.net.specs.Side.{inset_most}
use Rattle.net.specs.Net.{beyond_a, beyond_b}
use Rattle.net.specs.Walls.{chain}
use Rattle.promise.specs.Sound.{Sound}
use Rattle.promise.specs.Next.{IsRun}
use Rattle.promise.specs.Moved.{amount1, amount2}
use Rattle.promise.specs.Halves.{amount-range, evening_most, a_of, b_of}
use Rattle.promise.specs.Places.{amount1-range, exact₄, even, left_x, right_x, new_left, new_right}
use Rattle.store_laws.specs.Reading.{y_at, dl_at, dr_at, run-size, run-low, entry_says, first_says, last_says, way_is, far_is}
use Rattle.promise.specs.Frames.{wide, framed, dr_most, dl_most}

-- ---- plain numbers: wl is at (x, y) and wr at (z, t), z' once it has moved; e is what step 3 adds

-- The rest by 2 that the code adds is what step 3 adds.
total-plain : (τ : Style) (x y z t z' far a b e : ℕ) → x + far ≡ z → z' ≡ z + (a + (b + e)) → e ≤ 1 → y ≤ x → inset τ ≤ z' + t → (a_of τ x y + b_of τ z' t) % 2 ≡ 0 →
    x + (far + a + b + (far + a + b + y + t) % 2) ≡ z'
total-plain τ x y z t z' far a b e p q e1 frame some even = omega arith

-- wr has moved to x + T, and the new point is at (X, Y), i inside the diagonals through both: so its distances from wl and wr are halves.
module _ (i x y t T X Y : ℕ) (left : X + y ≡ x + i + Y) (right : X + Y + i ≡ x + T + t) (low : y ≤ T + t) (high : t ≤ T + y) where
  x_plain : x + (T + t - y) / 2 ≡ X
  x_plain = omega arith

  y_plain : (T + t + y - 2 * i) / 2 ≡ Y
  y_plain = omega arith

  rest_plain : X + (T - (T + t - y) / 2) ≡ x + T
  rest_plain = omega arith

-- The amounts of steps 1 and 2 are 2 at most, and step 3 adds 1 at most.
total_most : (τ : Style) (far y t rights lefts : ℕ) → total τ far y t rights lefts ≤ far + 5
total_most τ far y t rights lefts = omega (arith, amount-range τ rights, amount-range τ lefts)

-- ---- the run

-- how far wr lies to the right of wl before the call
abbrev pub far_of : Arrays → List ℕ → ℕ
far_of a es = way a.gap es (length es - 1)

-- and after steps 1 to 3
abbrev pub total_of : Drawing → Arrays → List ℕ → ℕ → ℕ → ℕ
total_of d a es l r = total d.style (far_of a es) (y_of d (w d l)) (y_of d (w d r)) (dr_of d (w d l)) (dl_of d (w d r))

-- The amount of step 1 is the code's.
pub amount1_is : (d : Drawing) (l : ℕ) → amount1 d l ≡ amount d.style (dr_of d (w d l))
unfolding amount1
amount1_is d l = refl

-- So is that of step 2, before step 3 adds its own.
amount2_is : (d : Drawing) (l r : ℕ) → amount2 d l r ≡ amount d.style (dl_of d (w d r)) + s3 l r (step2 r (step1 l d))
unfolding amount2
amount2_is d l r = refl

-- how small the numbers of a call are beside k, the number of points
pub record Bounded (τ : Style) (a : Arrays) (k : ℕ) (es : List ℕ) : Type 0 where
  pub rise_l : at_point a.ys (entry_point es 0) + inset τ ≤ far_of a es + at_point a.ys (entry_point es (length es - 1))
  pub rise_r : at_point a.ys (entry_point es (length es - 1)) + inset τ ≤ far_of a es + at_point a.ys (entry_point es 0)
  pub way : (i : ℕ) → i < length es → Rattle.store_links.specs.Placing.way a.gap es i + 9 ≤ 5 * k
  pub height : (i : ℕ) → i < length es → 2 * at_point a.ys (entry_point es i) + 11 ≤ 5 * k
  pub rights : 2 * at_point a.drs (entry_point es 0) + 11 ≤ 5 * k
  pub lefts : 2 * at_point a.dls (entry_point es (length es - 1)) + 11 ≤ 5 * k
  pub dx : (spot_for τ a es).dx + 4 ≤ 5 * k
  pub y : 2 * (spot_for τ a es).y + 6 ≤ 5 * k
  pub s1 : (spot_for τ a es).s1 ≤ 2
  pub rest : (spot_for τ a es).rest + 4 ≤ 5 * k

module _ {d : Drawing} {a : Arrays} {c : Counts} (es : List ℕ) {l r : ℕ} (t : Stores d a c) (s : Sound d) (q : IsRun d (map entry_of es) l r) where
  -- The arrays at the ends of the run.
  yl_is : at_point a.ys (entry_point es 0) ≡ y_of d (w d l)
  yl_is = first_says es s q a.ys (y_of d) (y_at t)

  yr_is : at_point a.ys (entry_point es (length es - 1)) ≡ y_of d (w d r)
  yr_is = last_says es s q a.ys (y_of d) (y_at t)

  dr_is : at_point a.drs (entry_point es 0) ≡ dr_of d (w d l)
  dr_is = first_says es s q a.drs (dr_of d) (dr_at t)

  dl_is : at_point a.dls (entry_point es (length es - 1)) ≡ dl_of d (w d r)
  dl_is = last_says es s q a.dls (dl_of d) (dl_at t)

  -- Neither end is further above the other than it lies to the side, nor as far where lines bend.
  pub rise_l : y_of d (w d l) + inset d.style ≤ far_of a es + y_of d (w d r)
  rise_l = omega (arith, beyond_b (chain s.core.points l r q.lr q.rm).1, far_is es t s q)

  pub rise_r : y_of d (w d r) + inset d.style ≤ far_of a es + y_of d (w d l)
  rise_r = omega (arith, beyond_a (chain s.core.points l r q.lr q.rm).0, far_is es t s q)

  -- wr moves by the amounts of steps 1 to 3.
  moved_r : x_of (spread l r d) (w d r) ≡ x_of d (w d r) + (amount d.style (dr_of d (w d l)) + (amount d.style (dl_of d (w d r)) + s3 l r (step2 r (step1 l d))))
  moved_r = right_x d (map entry_of es) l r s q ∙ ap₂ (λ u v. x_of d (w d r) + (u + v)) (amount1_is d l) (amount2_is d l r)

  -- A + B is even after step 3, which leaves wl.
  even_is : (a_of d.style (x_of d (w d l)) (y_of d (w d l)) + b_of d.style (x_of (spread l r d) (w d r)) (y_of d (w d r))) % 2 ≡ 0
  even_is = ap (λ n. (a_of d.style n (y_of d (w d l)) + b_of d.style (x_of (spread l r d) (w d r)) (y_of d (w d r))) % 2) (sym (left_x d (map entry_of es) l r s q)) ∙ even d (map entry_of es) l r s q

  -- After steps 1 to 3 wr lies `total` to the right of wl.
  pub total_is : x_of d (w d l) + total_of d a es l r ≡ x_of (spread l r d) (w d r)
  total_is =
      let z = exact₄ d (map entry_of es) l r s q in
      let b = step2 r (step1 l d) in
      total-plain d.style (x_of d (w d l)) (y_of d (w d l)) (x_of d (w d r)) (y_of d (w d r)) (x_of (spread l r d) (w d r)) (far_of a es) (amount d.style (dr_of d (w d l)))
      (amount d.style (dl_of d (w d r))) (s3 l r b) (far_is es t s q) moved_r (evening_most d.style (A l b + B r b)) (s.core.points.frame (pred (w d l)) (w_in l (omega (arith, q.lr))))
      z.right even_is
    where
      w_in : (i : ℕ) → i ≤ r → pred (w d i) < d.k
      w_in i h = omega (arith, run-low es s q i h)

  -- The spot reads the drawing at the ends of the run.
  spot_is : spot_for d.style a es ≡ spot_of d.style (far_of a es) (y_of d (w d l)) (y_of d (w d r)) (dr_of d (w d l)) (dl_of d (w d r)) (length es)
  spot_is = cc (yl_is, yr_is, dr_is, dl_is)

  -- Step 4 in sums, with wr where `total` says.
  new_sum : new_x l r (spread l r d) + new_y l r (spread l r d) + inset d.style ≡ x_of d (w d l) + total_of d a es l r + y_of d (w d r)
  new_sum = new_right d (map entry_of es) l r s q ∙ ap (λ n. n + y_of d (w d r)) (sym total_is)

  -- The ends stay less apart in height than to the side.
  low_l : y_of d (w d l) ≤ total_of d a es l r + y_of d (w d r)
  low_l = omega (arith, rise_l)

  low_r : y_of d (w d r) ≤ total_of d a es l r + y_of d (w d l)
  low_r = omega (arith, rise_r)

  -- The new point's x.
  pub spot_x : x_of d (w d l) + (spot_for d.style a es).dx ≡ new_x l r (spread l r d)
  unfolding spot_of
  spot_x =
      ap (λ (p : Spot). x_of d (w d l) + p.dx) spot_is ∙
      x_plain (inset d.style) (x_of d (w d l)) (y_of d (w d l)) (y_of d (w d r)) (total_of d a es l r) _ _ (new_left d (map entry_of es) l r s q) new_sum low_l low_r

  -- The new point's height.
  pub spot_y : (spot_for d.style a es).y ≡ new_y l r (spread l r d)
  unfolding spot_of
  spot_y =
      ap (λ (p : Spot). p.y) spot_is ∙
      y_plain (inset d.style) (x_of d (w d l)) (y_of d (w d l)) (y_of d (w d r)) (total_of d a es l r) _ _ (new_left d (map entry_of es) l r s q) new_sum low_l low_r

  -- Its middle row is h below it.
  pub spot_h : (spot_for d.style a es).h ≡ length es / 2
  unfolding spot_of
  spot_h = refl

  -- The inner points move by s1.
  pub spot-s1 : (spot_for d.style a es).s1 ≡ amount1 d l
  unfolding spot_of
  spot-s1 = ap (amount d.style) dr_is ∙ sym (amount1_is d l)

  -- wr lies `rest` to the right of the new point.
  pub spot-rest : new_x l r (spread l r d) + (spot_for d.style a es).rest ≡ x_of (spread l r d) (w d r)
  unfolding spot_of
  spot-rest =
      ap (λ (p : Spot). new_x l r (spread l r d) + p.rest) spot_is ∙
      rest_plain (inset d.style) (x_of d (w d l)) (y_of d (w d l)) (y_of d (w d r)) (total_of d a es l r) _ _ (new_left d (map entry_of es) l r s q) new_sum low_l low_r ∙
      total_is

  -- ---- bounds

  -- A boundary point lies in the frame.
  frame_of : (i : ℕ) → i ≤ r → (y_of d (w d i) ≤ x_of d (w d i)) × (x_of d (w d i) + y_of d (w d i) ≤ W d) × (2 * y_of d (w d i) + 2 * inset d.style ≤ W d)
  frame_of i h = framed s (pred (w d i)) (omega (arith, run-low es s q i h))

  -- No entry lies further from wl than the drawing is wide, and that is 5k - 9 at most.
  pub way_most : (i : ℕ) → l + i ≤ r → way a.gap es i ≤ W d
  way_most i h = omega (arith, way_is es t s q i h, (frame_of (l + i) h).1)

  pub way-width : (i : ℕ) → l + i ≤ r → way a.gap es i + 9 ≤ 5 * d.k
  way-width i h = omega (arith, way_most i h, wide s, inset_most d.style)

  pub far_most : far_of a es ≤ W d
  far_most = way_most (length es - 1) (omega (arith, run-size es q, q.lr))

  -- wr moves by 5 at most.
  pub total-width : total_of d a es l r ≤ W d + 5
  total-width = omega (arith, total_most d.style (far_of a es) (y_of d (w d l)) (y_of d (w d r)) (dr_of d (w d l)) (dl_of d (w d r)), far_most)

  -- The new point lies between wl and wr.
  pub dx_most : (spot_for d.style a es).dx ≤ total_of d a es l r
  dx_most = omega (arith, spot_x, spot-rest, total_is)

  pub rest_most : (spot_for d.style a es).rest ≤ total_of d a es l r
  rest_most = omega (arith, spot_x, spot-rest, total_is)

  -- It is no higher than half the width, and less high where lines bend.
  pub y_most : 2 * (spot_for d.style a es).y + 2 * inset d.style ≤ W d + 5
  y_most =
      omega (
        arith,
        spot_y,
        new_left d (map entry_of es) l r s q,
        new_sum,
        total_most d.style (far_of a es) (y_of d (w d l)) (y_of d (w d r)) (dr_of d (w d l)) (dl_of d (w d r)),
        far_is es t s q,
        (frame_of l (omega (arith, q.lr))).0,
        (frame_of r (omega arith)).1,
      )

  -- All of it, of the arrays alone.
  pub bounded : Bounded d.style a d.k es
  bounded =
      let bl = run-low es s q l (omega (arith, q.lr)) in
      let br = run-low es s q r (omega arith) in
      record {
        rise_l = rw (yl_is, yr_is) rise_l;
        rise_r = rw (yl_is, yr_is) rise_r;
        way = λ i b. way-width i (omega (arith, run-size es q));
        height = λ i b. high i (omega (arith, run-size es q));
        rights = omega (arith, dr_is, dr_most s (w d l) bl.0 bl.1, wide s, inset_most d.style);
        lefts = omega (arith, dl_is, dl_most s (w d r) br.0 br.1, wide s, inset_most d.style);
        dx = omega (arith, dx_most, total-width, wide s, inset_most d.style);
        y = omega (arith, y_most, wide s);
        s1 = omega (arith, spot-s1, amount1-range d l);
        rest = omega (arith, rest_most, total-width, wide s, inset_most d.style);
      }
    where
      high : (i : ℕ) → l + i ≤ r → 2 * at_point a.ys (entry_point es i) + 11 ≤ 5 * d.k
      high i h = omega (arith, entry_says es s q a.ys (y_of d) (y_at t) i h, (frame_of (l + i) h).2, wide s)
