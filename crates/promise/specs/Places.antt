-- Steps 1 to 4 of an accepted call: by how much the columns move, and where the new point lies.
use Rattle.std.specs.Prelude.{ℕ, suc, pred, ◌+◌, ◌%◌, ◌<◌, ◌≤◌, ◌≡◌, List, [], length}
use Rattle.std.proofs.Common.{ap, ◌∙◌, arith}
use Rattle.std.proofs.Math.ListN.{get_or-append}
use Rattle.std.proofs.lemmas.List.{get_or_at}
use Rattle.rules.specs.declared.Style.TheVariants.{Straight}
use Rattle.rules.specs.declared.Entry.{Entry}
use Rattle.rules.specs.Styles.{inset}
use Rattle.rules.specs.Points.{Drawing, x_of, y_of, dl_of, dr_of, w, m}
use Rattle.rules.specs.Adding.{s1, s2, s3, A, B, new_x, new_y, step1, step2, spread}
use Rattle.net.specs.Side.{Side, rt, lf, at, inset_most}
use Rattle.net.specs.Net.{Next, beyond_b}
use Rattle.net.specs.Inv.{Points}
use Rattle.net.specs.Walls.{chain}
use Rattle.net.specs.Parity.{parity}
use Rattle.net.specs.Amounts.{moves, moves_l, moves_r, Shift, none, some, all, shift, Amounts}
use Rattle.promise.specs.Nets.{net_of}
use Rattle.promise.specs.Sound.{Sound}
use Rattle.promise.specs.Next.{IsRun, Untruncated, next}
use Rattle.promise.specs.Moved.{amount1, amount2, x_before, x_spread, length-spread}
use Rattle.promise.specs.Halves.{amount-range, evening_most, even_after, new_diff, new_sum}

-- ---- the amounts are small and at least 1

-- The amount of step 1 is 1 or 2.
range₁ : (d : Drawing) (l : ℕ) → (0 < s1 l d) × (s1 l d ≤ 2)
range₁ d l = amount-range d.style (dr_of d (w d l))

-- The same, of the first amount by its name.
pub amount1-range : (d : Drawing) (l : ℕ) → (0 < amount1 d l) × (amount1 d l ≤ 2)
unfolding amount1
amount1-range d l = range₁ d l

-- The amount of step 2 is 1 or 2.
range₂ : (d : Drawing) (l r : ℕ) → (0 < s2 r (step1 l d)) × (s2 r (step1 l d) ≤ 2)
range₂ d l r = amount-range d.style (dl_of (step1 l d) (w d r))

-- The other two amounts together are 1 to 3.
pub amount2-range : (d : Drawing) (l r : ℕ) → (0 < amount2 d l r) × (amount2 d l r ≤ 3)
unfolding amount2
amount2-range d l r = omega (arith, range₂ d l r, evening_most d.style (A l (step2 r (step1 l d)) + B r (step2 r (step1 l d))))

-- ---- the places in the next drawing, read through its lists

-- An old point is where steps 1 to 3 left it.
next_x : (d : Drawing) (es : List Entry) (l r p : ℕ) → p < length d.xs → x_of (next d es l r) (suc p) ≡ x_of (spread l r d) (suc p)
unfolding next
next_x d es l r p h = get_or-append (spread l r d).xs _ 0 p (omega (arith, length-spread d l r))

-- An old point keeps its height.
next_y : (d : Drawing) (es : List Entry) (l r p : ℕ) → p < length d.ys → y_of (next d es l r) (suc p) ≡ y_of d (suc p)
unfolding next
next_y d es l r p h = get_or-append d.ys _ 0 p h

-- The new point's x is what step 4 says.
next_new_x : (d : Drawing) (es : List Entry) (l r p : ℕ) → length d.xs ≡ p → x_of (next d es l r) (suc p) ≡ new_x l r (spread l r d)
unfolding next
next_new_x d es l r p h = get_or_at (spread l r d).xs _ [] 0 p (length-spread d l r ∙ h)

-- The new point's height is what step 4 says.
next_new_y : (d : Drawing) (es : List Entry) (l r p : ℕ) → length d.ys ≡ p → y_of (next d es l r) (suc p) ≡ new_y l r (spread l r d)
unfolding next
next_new_y d es l r p h = get_or_at d.ys _ [] 0 p h

module _ (d : Drawing) (es : List Entry) (l r : ℕ) (s : Sound d) (q : IsRun d es l r) where
  -- The walls and the frame of the net before the call.
  points : Points d.style (net_of d)
  points = s.core.points

  -- l is a boundary index too.
  lm : l < m d
  lm = omega (arith, q.lr, q.rm)

  -- ---- the ends of the run in steps 1 to 3

  -- A boundary point has its x.
  listed : (i : ℕ) → i < m d → pred (w d i) < length d.xs
  listed i im = omega (arith, (points.on i im).0, s.sized.xs)

  -- The x of boundary point i where step 3 reads it.
  x_on₂ : (i : ℕ) → i < m d → x_of (step2 r (step1 l d)) (w d i) ≡ x_of d (w d i) + moves l r (s1 l d) (s2 r (step1 l d)) i
  x_on₂ i im = omega (arith, x_before d l r (pred (w d i)) (listed i im), ap (moves l r (s1 l d) (s2 r (step1 l d))) (points.on i im).1)

  -- The x of boundary point i after steps 1 to 3.
  pub x_on : (i : ℕ) → i < m d → x_of (spread l r d) (w d i) ≡ x_of d (w d i) + moves l r (amount1 d l) (amount2 d l r) i
  x_on i im = omega (arith, x_spread d l r (pred (w d i)) (listed i im), ap (moves l r (amount1 d l) (amount2 d l r)) (points.on i im).1)

  -- wl stays in steps 1 and 2.
  left₂ : x_of (step2 r (step1 l d)) (w d l) ≡ x_of d (w d l)
  left₂ = omega (arith, x_on₂ l lm, moves_l l r (s1 l d) (s2 r (step1 l d)) q.lr (range₁ d l).0 (range₂ d l r).0)

  -- wl stays in steps 1 to 3.
  pub left_x : x_of (spread l r d) (w d l) ≡ x_of d (w d l)
  left_x = omega (arith, x_on l lm, moves_l l r (amount1 d l) (amount2 d l r) q.lr (amount1-range d l).0 (amount2-range d l r).0)

  -- wr moves by the amounts of steps 1 and 2.
  right₂ : x_of (step2 r (step1 l d)) (w d r) ≡ x_of d (w d r) + (s1 l d + s2 r (step1 l d))
  right₂ = omega (arith, x_on₂ r q.rm, moves_r l r (s1 l d) (s2 r (step1 l d)) q.lr (range₁ d l).0 (range₂ d l r).0)

  -- wr moves by all the amounts in steps 1 to 3.
  pub right_x : x_of (spread l r d) (w d r) ≡ x_of d (w d r) + (amount1 d l + amount2 d l r)
  right_x = omega (arith, x_on r q.rm, moves_r l r (amount1 d l) (amount2 d l r) q.lr (amount1-range d l).0 (amount2-range d l r).0)

  -- Step 3 leaves wl.
  left₃ : x_of (spread l r d) (w d l) ≡ x_of (step2 r (step1 l d)) (w d l)
  left₃ = omega (arith, left_x, left₂)

  -- Step 3 moves wr by its own amount.
  right₃ : x_of (spread l r d) (w d r) ≡ x_of (step2 r (step1 l d)) (w d r) + s3 l r (step2 r (step1 l d))
  unfolding amount1 amount2
  right₃ = omega (arith, right_x, right₂)

  -- The height of wl is at most its x.
  frame_l : y_of d (w d l) ≤ x_of d (w d l)
  frame_l = points.frame ((net_of d).w l) (points.on l lm).0

  -- Before the call x + y of wr is more than x + y of wl, or no less in a straight drawing.
  further : x_of d (w d l) + y_of d (w d l) + inset d.style ≤ x_of d (w d r) + y_of d (w d r)
  further = beyond_b (chain points l r q.lr q.rm).1

  -- ---- laws for the running code, which has no numbers below 0: A, B and B - A are the document's differences, and the halves of step 4 leave no rest

  -- Step 3, which reads A and B after steps 1 and 2: no subtraction truncates.
  pub exact₃ : Untruncated l r (step2 r (step1 l d))
  exact₃ =
      record {
        left = omega (arith, left₂, frame_l);
        right = omega (arith, right₂, range₁ d l, inset_most d.style);
        order = omega (arith, left₂, right₂, frame_l, further, range₁ d l, range₂ d l r, inset_most d.style);
      }

  -- Step 4: A + B is even.
  pub even : (A l (spread l r d) + B r (spread l r d)) % 2 ≡ 0
  even =
      even_after d.style _ _ _ _ _ _ _ (dr_of d (w d l)) (dl_of (step1 l d) (w d r)) l r left₃ right₂ right₃ exact₃.left exact₃.right
      (rw left₂ (parity s.core.corners l lm)) (parity s.core.corners r q.rm)

  -- In a straight drawing it was so before step 3.
  pub even₂ : d.style ≡ Straight → (A l (step2 r (step1 l d)) + B r (step2 r (step1 l d))) % 2 ≡ 0
  even₂ b =
      let z : s3 l r (step2 r (step1 l d)) ≡ 0 = rw b in
      omega (arith, even, left₃, right₃, z)

  -- Step 4: no subtraction truncates.
  pub exact₄ : Untruncated l r (spread l r d)
  exact₄ =
      record {
        left = omega (arith, left_x, frame_l);
        right = omega (arith, right₃, exact₃.right);
        order = omega (arith, left₃, right₃, exact₃.order);
      }

  -- Step 4 in sums: the new point has x - y one more than wl, or the same in a straight drawing.
  pub new_left : new_x l r (spread l r d) + y_of d (w d l) ≡ x_of d (w d l) + inset d.style + new_y l r (spread l r d)
  new_left =
      new_diff d.style _ _ _ _ exact₄.left exact₄.right exact₄.order even ∙ ap (λ n. n + inset d.style + new_y l r (spread l r d)) left_x

  -- Step 4 in sums: the new point has x + y one less than wr, which has moved, or the same in a straight drawing.
  pub new_right : new_x l r (spread l r d) + new_y l r (spread l r d) + inset d.style ≡ x_of (spread l r d) (w d r) + y_of d (w d r)
  new_right = new_sum d.style _ _ _ _ exact₄.left exact₄.right exact₄.order even

  -- ---- the amounts of the step from `net_of d` to the next net

  -- The new point's x is what step 4 says.
  pub x_new : (net_of (next d es l r)).x (net_of d).k ≡ new_x l r (spread l r d)
  x_new = next_new_x d es l r d.k s.sized.xs

  -- The new point's height is what step 4 says.
  pub y_new : (net_of (next d es l r)).y (net_of d).k ≡ new_y l r (spread l r d)
  y_new = next_new_y d es l r d.k s.sized.ys

  -- An old point moves by its column's amounts.
  pub x_old : (p : ℕ) → p < d.k → (net_of (next d es l r)).x p ≡ (net_of d).x p + moves l r (amount1 d l) (amount2 d l r) ((net_of d).col p)
  x_old p pk = let h : p < length d.xs = omega (arith, s.sized.xs) in next_x d es l r p h ∙ x_spread d l r p h

  -- An old point keeps its height.
  pub y_old : (p : ℕ) → p < d.k → (net_of (next d es l r)).y p ≡ (net_of d).y p
  y_old p pk = next_y d es l r p (omega (arith, s.sized.ys))

  -- A boundary point of the old drawing is where steps 1 to 3 left it.
  x_end : (i : ℕ) → i < m d → (net_of (next d es l r)).x ((net_of d).w i) ≡ x_of (spread l r d) (w d i)
  x_end i im = next_x d es l r ((net_of d).w i) (listed i im)

  -- A boundary point of the old drawing keeps its height.
  y_end : (i : ℕ) → i < m d → (net_of (next d es l r)).y ((net_of d).w i) ≡ y_of d (w d i)
  y_end i im = y_old ((net_of d).w i) (points.on i im).0

  -- All that net's `places_of` asks.
  pub amounts : Amounts d.style (net_of d) (net_of (next d es l r)) l r (amount1 d l) (amount2 d l r)
  amounts =
      record {
        lr = q.lr;
        rm = q.rm;
        one = (amount1-range d l).0;
        two = (amount2-range d l r).0;
        x' = x_old;
        y' = y_old;
        new_a = rw (x_new, y_new) new_left;
        new_b = rw (x_new, y_new, x_end r q.rm) new_right;
      }

  -- All the amounts are 5 at most.
  pub most : amount1 d l + amount2 d l r ≤ 5
  most = omega (arith, amount1-range d l, amount2-range d l r)

  -- In a straight drawing they are 2.
  pub two : d.style ≡ Straight → amount1 d l + amount2 d l r ≡ 2
  unfolding amount1 amount2
  two b = rw b

  -- The columns up to l stay.
  pub still : (c : ℕ) → c ≤ l → moves l r (amount1 d l) (amount2 d l r) c ≡ 0
  still c h = go (shift l r (amount1 d l) (amount2 d l r) c q.lr)
    where
      go : Shift l r (amount1 d l) (amount2 d l r) c → moves l r (amount1 d l) (amount2 d l r) c ≡ 0
      go (none a e) = e
      go (some a b e) = absurd (omega arith)
      go (all a e) = absurd (omega (arith, q.lr))

  -- The columns from r on move by all the amounts.
  pub rigid : (c : ℕ) → r ≤ c → moves l r (amount1 d l) (amount2 d l r) c ≡ amount1 d l + amount2 d l r
  rigid c h = go (shift l r (amount1 d l) (amount2 d l r) c q.lr)
    where
      go : Shift l r (amount1 d l) (amount2 d l r) c → moves l r (amount1 d l) (amount2 d l r) c ≡ amount1 d l + amount2 d l r
      go (none a e) = absurd (omega (arith, q.lr))
      go (some a b e) = absurd (omega arith)
      go (all a e) = e

  -- The new point is one step from each end of the run, or on one diagonal with it in a straight drawing.
  pub step : (t : Side) → Next d.style t (net_of (next d es l r)) ((net_of d).w (at t l r)) (net_of d).k
  step rt = omega (arith, amounts.new_a, x_end l lm, left_x, y_end l lm)
  step lf = omega (arith, amounts.new_b, y_end r q.rm)
