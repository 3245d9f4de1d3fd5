-- The new lines of an accepted call: which they are, where they bend, and that each middle port reaches its point.
use Rattle.std.specs.Prelude.{ℕ, zero, suc, pred, ◌+◌, ◌-◌, ◌*◌, ◌/◌, ◌<◌, ◌≤◌, ◌≡◌, Bool, true, false, List, ◌++◌, length, get_or}
use Rattle.std.proofs.Math.Path.{refl, ap}
use Rattle.std.proofs.Common.{sym, ◌∙◌, arith}
use Rattle.std.proofs.Math.Decide.{ℕ_discrete}
use Rattle.rules.specs.declared.Kind.TheVariants.{Guide}
use Rattle.rules.specs.declared.Entry.{Entry}
use Rattle.rules.specs.declared.Line.{Line as Drawn}
use Rattle.rules.specs.declared.Style.{Style}
use Rattle.rules.specs.declared.Style.TheVariants.{OneBend, Straight}
use Rattle.rules.specs.declared.Bend.{Bend}
use Rattle.rules.specs.declared.Bend.TheVariants.{Left, Right, Middle, NoBend}
use Rattle.rules.specs.Basics.{nth, alter}
use Rattle.rules.specs.Styles.{taken, bent}
use Rattle.rules.specs.Points.{Drawing, x_of, y_of, dl_of, dr_of, w, line_at}
use Rattle.rules.specs.Adding.{points_of, spread, change, new_x, new_y, row_height, inner, new_bend, new_lines, middle_of, D}
use Rattle.rules.specs.Adding.{reaches as test}
use Rattle.net.specs.Side.{rt, lf}
use Rattle.net.specs.Net.{side_kind, middle_kind}
use Rattle.net.specs.Inv.{Reach, Inv}
use Rattle.net.specs.Adds.{Line, old, tip, rib}
use Rattle.net.specs.Amounts.{Amounts}
use Rattle.net.specs.Row.{Hits, First, port_at}
use Rattle.net.specs.Row as Row
use Rattle.promise.specs.Nets.{net_of, bend_kind}
use Rattle.promise.specs.Sound.{Sound, Ended}
use Rattle.promise.specs.Next.{IsRun, next}
use Rattle.promise.specs.Moved.{length-spread}
use Rattle.promise.specs.Counts.{get_d_snoc, snoc_new}
use Rattle.rules.proofs.Lengths.{length-points}
use Rattle.promise.specs.Lined.{OfEntry, Read, was, entry, read, length-lines, bend_last, bend-inner, alter_at}
use Rattle.promise.specs.Change.{get_d_inner, length-inner, reached, reaching, unreached, change-start, change-end, first_before, first_at, middle-rising}

-- the first inner point that its own port doesn't reach
unfoldable pub change_of : Drawing → List Entry → ℕ → ℕ → ℕ
change_of d es l r =
    change (new_x l r (spread l r d)) (new_y l r (spread l r d)) (row_height (points_of es)) (spread l r d) 1 (inner (points_of es))

-- the middle port that boundary point i of the run takes
unfoldable pub port : Drawing → List Entry → ℕ → ℕ → ℕ → ℕ
port d es l r i = port_at l (change_of d es l r) i

-- the bend of entry i's line
unfoldable bend_at : Drawing → List Entry → ℕ → ℕ → ℕ → Bend
bend_at d es l r i =
    bent d.style (new_bend (nth (alter (taken d.style) d.drs (w d l)) (w d l) 0) (nth (alter (taken d.style) d.dls (w d r)) (w d r) 0) (D (points_of es)) (change_of d es l r) i)

-- port i of the new point reaches point p
unfoldable pub Test : Drawing → List Entry → ℕ → ℕ → ℕ → ℕ → Bool
Test d es l r i p =
    test (new_x l r (spread l r d)) (new_y l r (spread l r d)) (row_height (points_of es)) i (x_of (spread l r d) p) (y_of (spread l r d) p)

-- what `line_at` gives where there is no line
abbrev no_line : Drawn
no_line = record { later = 0; earlier = 0; bend = NoBend; kind = Guide }

-- ---- the kinds of the bends, by the style

right_kind : (τ : Style) (j : ℕ) → bend_kind (bent τ (Right j)) ≡ side_kind τ rt j
right_kind OneBend j = refl
right_kind Straight j = refl

left_kind : (τ : Style) (j : ℕ) → bend_kind (bent τ (Left j)) ≡ side_kind τ lf j
left_kind OneBend j = refl
left_kind Straight j = refl

middle_kind_lem : (τ : Style) (i : ℕ) → bend_kind (bent τ (Middle i)) ≡ middle_kind τ i
middle_kind_lem OneBend i = refl
middle_kind_lem Straight i = refl

-- ---- what the new drawing's lists hold

-- the old lines, then those of the entries
new_lines_lem : (d : Drawing) (es : List Entry) (l r : ℕ) → (next d es l r).lines ≡ d.lines ++ new_lines (suc d.k) (bend_at d es l r) 0 es
unfolding next bend_at change_of
new_lines_lem d es l r = refl

module _ (d : Drawing) (es : List Entry) (l r : ℕ) (s : Sound d) (q : IsRun d es l r) where
  -- there are r - l + 1 entries
  size : length es ≡ r - l + 1
  size = omega (arith, q.size, q.lr)

  -- each entry adds a line
  pub L' : (net_of (next d es l r)).L + l ≡ (net_of d).L + r + 1
  L' = omega (arith, ap length (new_lines_lem d es l r), length-lines d.lines (suc d.k) (bend_at d es l r) es, q.size)

  -- the ports rise along the run
  pub rising : (i j : ℕ) → l < i → i < j → j < r → port d es l r i < port d es l r j
  unfolding port
  rising i j li ij jr = middle-rising (change_of d es l r) (i - l) (j - l) (omega arith)

  -- line e of the new drawing is an old one, or that of entry i
  data Seen (e : ℕ) : Type 0 where
    stays : e < length d.lines → line_at (next d es l r) e ≡ line_at d e → Seen e
    comes : (i : ℕ) → l + i ≤ r → e ≡ length d.lines + i → OfEntry (suc d.k) (w d (l + i)) (bend_at d es l r i) (line_at (next d es l r) e) → Seen e

  -- every line is seen so
  seen : (e : ℕ) → e < (net_of (next d es l r)).L → Seen e
  seen e h = go (read d.lines (suc d.k) (bend_at d es l r) es no_line e (rw new_lines_lem at h))
    where
      go : Read d.lines (suc d.k) (bend_at d es l r) es no_line e → Seen e
      go (was b t) = stays b (rw new_lines_lem t)
      go (entry i b sum t) =
          let ir : l + i ≤ r = omega (arith, q.size) in
          comes i ir sum (rw (new_lines_lem, ← q.point i ir) t)

  -- the points of the run are numbered from 1 to k
  low : (i : ℕ) → i ≤ r → (0 < w d i) × (w d i ≤ d.k)
  low i ir = s.rooted.low i (omega (arith, q.rm))

  -- the counts of the ends of the run have grown
  rights : nth (alter (taken d.style) d.drs (w d l)) (w d l) 0 ≡ taken d.style (dr_of d (w d l))
  rights = let b = low l (omega (arith, q.lr)) in alter_at (taken d.style) d.drs (w d l) b.0 (omega (arith, s.sized.drs))

  lefts : nth (alter (taken d.style) d.dls (w d r)) (w d r) 0 ≡ taken d.style (dl_of d (w d r))
  lefts = let b = low r (omega arith) in alter_at (taken d.style) d.dls (w d r) b.0 (omega (arith, s.sized.dls))

  -- the last entry's index
  last : D (points_of es) ≡ r - l
  last = omega (arith, length-points es, size)

  -- where the lines bend: at the new highest port of an end, and at the middle ports
  bend_l : bend_kind (bend_at d es l r 0) ≡ side_kind d.style rt (taken d.style (dr_of d (w d l)))
  unfolding bend_at
  bend_l = right_kind d.style _ ∙ ap (side_kind d.style rt) rights

  bend_r : bend_kind (bend_at d es l r (r - l)) ≡ side_kind d.style lf (taken d.style (dl_of d (w d r)))
  unfolding bend_at
  bend_r =
      ap (λ b. bend_kind (bent d.style b)) (bend_last _ _ (D (points_of es)) (change_of d es l r) (r - l) (omega (arith, q.lr)) (sym last)) ∙
      left_kind d.style _ ∙
      ap (side_kind d.style lf) lefts

  bend_m : (i : ℕ) → 0 < i → i < r - l → bend_kind (bend_at d es l r i) ≡ middle_kind d.style (port d es l r (l + i))
  unfolding bend_at port
  bend_m i z b =
      let e : i ≡ l + i - l = omega arith in
      ap (λ b. bend_kind (bent d.style b)) (bend-inner _ _ (D (points_of es)) (change_of d es l r) i z (omega (arith, last))) ∙
      middle_kind_lem d.style _ ∙
      ap (λ (n : ℕ). middle_kind d.style (middle_of (change_of d es l r) n)) e

  -- the line of entry i: to an end of the run, or to a point inside it
  new_line : (e i : ℕ) → l + i ≤ r → e ≡ length d.lines + i → OfEntry (suc d.k) (w d (l + i)) (bend_at d es l r i) (line_at (next d es l r) e) →
      Line d.style (net_of d) (net_of (next d es l r)) l r (port d es l r) e
  new_line e i ir sum t =
      elim (ℕ_discrete i 0) [
        | yes z ↦
            let c : l + i ≡ l = omega arith in
            tip rt (omega arith) (ap pred t.earlier ∙ ap (λ (n : ℕ). pred (w d n)) c) (ap pred t.later)
            (ap bend_kind (t.bend ∙ ap (bend_at d es l r) z) ∙ bend_l)
        | no n ↦ elim (ℕ_discrete i (r - l)) [
          | yes z ↦
              let c : l + i ≡ r = omega (arith, q.lr) in
              tip lf (omega arith) (ap pred t.earlier ∙ ap (λ (n : ℕ). pred (w d n)) c) (ap pred t.later)
              (ap bend_kind (t.bend ∙ ap (bend_at d es l r) z) ∙ bend_r)
          | no n' ↦
              rib (l + i) (omega arith) (omega arith) (omega arith) (ap pred t.earlier) (ap pred t.later)
              (ap bend_kind t.bend ∙ bend_m i (omega arith) (omega arith))
        ]
      ]

  -- each line of the new net, as net's `Adds` asks for it
  pub line : (e : ℕ) → e < (net_of (next d es l r)).L → Line d.style (net_of d) (net_of (next d es l r)) l r (port d es l r) e
  line e h = go (seen e h)
    where
      go : Seen e → Line d.style (net_of d) (net_of (next d es l r)) l r (port d es l r) e
      go (stays b t) = old b (ap (λ (a : Drawn). pred a.earlier) t) (ap (λ (a : Drawn). pred a.later) t) (ap (λ (a : Drawn). bend_kind a.bend) t)
      go (comes i ir sum t) = new_line e i ir sum t

  -- the ends of the lines are points
  pub ended' : Ended (next d es l r)
  ended' = record { ends = λ e h. go e (seen e h) }
    where
      go : (e : ℕ) → Seen e → (0 < (line_at (next d es l r) e).earlier) × (0 < (line_at (next d es l r) e).later)
      go e (stays b t) = rw t (s.ended.ends e b)
      go e (comes i ir sum t) = (rw t.earlier (low (l + i) ir).0, rw t.later (omega arith))

  -- ---- step 5, in the numbers of the new net

  -- the new point's numbers
  new_x_lem : (net_of (next d es l r)).x d.k ≡ new_x l r (spread l r d)
  unfolding next
  new_x_lem = snoc_new (spread l r d).xs (new_x l r (spread l r d)) d.k (length-spread d l r ∙ s.sized.xs)

  new_y_lem : (net_of (next d es l r)).y d.k ≡ new_y l r (spread l r d)
  unfolding next
  new_y_lem = snoc_new d.ys (new_y l r (spread l r d)) d.k s.sized.ys

  new_h : (net_of (next d es l r)).h d.k ≡ row_height (points_of es)
  unfolding next
  new_h = snoc_new d.hs (row_height (points_of es)) d.k s.sized.hs

  -- an old point's place after steps 1 to 3
  old_x : (p : ℕ) → p < d.k → (net_of (next d es l r)).x p ≡ x_of (spread l r d) (suc p)
  unfolding next
  old_x p b = get_d_snoc (spread l r d).xs (new_x l r (spread l r d)) p d.k (length-spread d l r ∙ s.sized.xs) b

  old_y : (p : ℕ) → p < d.k → (net_of (next d es l r)).y p ≡ y_of (spread l r d) (suc p)
  unfolding next
  old_y p b = get_d_snoc d.ys (new_y l r (spread l r d)) p d.k s.sized.ys b

  -- the middle row's height is D/2 rounded up
  pub h_new' : (net_of (next d es l r)).h (net_of d).k ≡ (r - l + 1) / 2
  h_new' = new_h ∙ ap (λ (n : ℕ). n / 2) (length-points es ∙ size)

  -- and so at most half of D + 1
  pub h_most' : 2 * (net_of (next d es l r)).h (net_of d).k ≤ r - l + 1
  h_most' = omega (arith, h_new')

  -- inner point i, from 0, is boundary point l + i + 1
  pub inner_at : (i : ℕ) → suc i < r - l → get_or (inner (points_of es)) i 0 ≡ w d (l + suc i)
  inner_at i b = get_d_inner (points_of es) i (omega (arith, length-points es, size)) ∙ q.point (suc i) (omega arith)

  -- there are r - l - 1 of them
  pub inners : suc (length (inner (points_of es))) ≡ r - l
  inners = omega (arith, length-inner (points_of es), length-points es, size, q.lr)

  -- the test of port i against boundary point l + i, read in the new net
  hit : (i : ℕ) → l + i ≤ r → Test d es l r i (w d (l + i)) ≡ true → Hits (net_of (next d es l r)) ((net_of d).w (l + i)) (net_of d).k i
  unfolding Test
  hit i ir e =
      let p : ℕ = pred (w d (l + i)) in
      let b : p < d.k = omega (arith, low (l + i) ir) in
      let t = reached _ _ _ _ _ _ _ _ _ _ i new_x_lem new_y_lem new_h (old_x p b) (old_y p b) e in
      record { to_a = t.0; to_b = t.1 }

  no_hit : (i : ℕ) → l + i ≤ r → Test d es l r i (w d (l + i)) ≡ false → ¬ Hits (net_of (next d es l r)) ((net_of d).w (l + i)) (net_of d).k i
  unfolding Test
  no_hit i ir e t =
      let p : ℕ = pred (w d (l + i)) in
      let b : p < d.k = omega (arith, low (l + i) ir) in
      unreached _ _ _ _ _ _ _ _ _ _ i new_x_lem new_y_lem new_h (old_x p b) (old_y p b) e t.to_a t.to_b

  -- the change is the first inner point that its own port doesn't reach in the new net
  change_first : First (net_of d) (net_of (next d es l r)) l r (change_of d es l r)
  unfolding change_of Test
  change_first = record { start = change-start x y h c 1 ps; hits = hits; miss = λ b. miss (change_of d es l r) refl b }
    where
      x : ℕ
      x = new_x l r (spread l r d)

      y : ℕ
      y = new_y l r (spread l r d)

      h : ℕ
      h = row_height (points_of es)

      c : Drawing
      c = spread l r d

      ps : List ℕ
      ps = inner (points_of es)

      most : change_of d es l r ≤ r - l
      most = omega (arith, change-end x y h c 1 ps, inners)

      hits : (i : ℕ) → 0 < i → i < change_of d es l r → Hits (net_of (next d es l r)) ((net_of d).w (l + i)) (net_of d).k i
      hits zero z b = absurd (omega arith)
      hits (suc j) z b =
          hit (suc j) (omega (arith, most)) (first_before x y h c ps j (w d (l + suc j)) (inner_at j (omega (arith, most))) (omega (arith, most, inners)) b)

      miss : (i : ℕ) → change_of d es l r ≡ i → i < r - l → ¬ Hits (net_of (next d es l r)) ((net_of d).w (l + i)) (net_of d).k i
      miss zero e b = absurd (omega (arith, change-start x y h c 1 ps))
      miss (suc j) e b = no_hit (suc j) (omega arith) (first_at x y h c ps j (w d (l + suc j)) (inner_at j b) (omega (arith, inners)) e)

  -- step 5, where lines bend: each port of the row reaches its point
  pub reaches : Inv (net_of d) → {s₁ s₂ : ℕ} → Amounts OneBend (net_of d) (net_of (next d es l r)) l r s₁ s₂ → (c : ℕ) → l < c → c < r →
      Reach (net_of (next d es l r)) ((net_of d).w c) (net_of d).k (port d es l r c)
  unfolding port
  reaches i a c = Row.reaches i a h_new' (change_of d es l r) change_first c

  -- and passes its test
  pub chosen : Inv (net_of d) → {s₁ s₂ : ℕ} → Amounts OneBend (net_of d) (net_of (next d es l r)) l r s₁ s₂ → (i : ℕ) → 0 < i → i < r - l →
      Test d es l r (middle_of (change_of d es l r) i) (w d (l + i)) ≡ true
  unfolding Test port
  chosen inv a i z b =
      let e : l + i - l ≡ i = omega arith in
      let p : ℕ = pred (w d (l + i)) in
      let pk : p < d.k = omega (arith, low (l + i) (omega arith)) in
      let t = reaches inv a (l + i) (omega arith) (omega arith) in
      rw e at (reaching _ _ _ _ _ _ _ _ _ _ _ new_x_lem new_y_lem new_h (old_x p pk) (old_y p pk) t.to_a t.to_b)
