-- The two passes give a sound drawing the x of its points.
use Rattle.std.specs.Prelude.{ℕ, zero, suc, pred, ◌+◌, ◌-◌, ◌<◌, ◌≤◌, ◌≡◌, refl, ◌≢◌, List, length, get_or, take, set}
use Rattle.std.proofs.Common.{sym, ap, ◌∙◌, arith, length-set, get_or-set_same, get_or-set_other, get_or-take, ext_get_or, length-take-le}
use Rattle.std.proofs.Math.Decide.{dec_lt, ℕ_discrete}
use Rattle.rules.specs.Basics.{index_of}
use Rattle.rules.specs.Points.{Drawing, x_of, w, m}
use Rattle.rules.specs.Moving.{column}
use Rattle.net.specs.Side.{inset_most}
use Rattle.promise.specs.Sound.{Sound}
use Rattle.promise.specs.Frames.{wide, framed}
use Rattle.promise.specs.Climb.{climb-root}
use Rattle.rules.specs.Indices.{index_at, index_le}
use Rattle.promise.specs.Columns.{w_suc, w_placed, index_is}
use Rattle.store_links.specs.Arrays.{Arrays, at_point, gap_offset}
use Rattle.store_settling.specs.Walk.{walked, first_pass, Walks, walked-past, walks-past, walked-go, go-walks}
use Rattle.store_settling.specs.Hang.{hang_by, HangsBy, hung, Hangs}
use Rattle.store_settling.specs.Placed.{Placed, Settleable, Settled}
use Rattle.store_settling.specs.Few.{few}

-- ---- a sound drawing

module _ {d : Drawing} (s : Sound d) where
  -- Every x fits 16 bits.
  x_fits : (p : ℕ) → p < d.k → d.k ≤ 1024 → get_or d.xs p 0 < 65536
  x_fits p pk small = omega (arith, (framed s p pk).1, wide s, inset_most d.style)

  -- Boundary points are different.
  differ : (i j : ℕ) → i < j → j < m d → pred (w d i) ≢ pred (w d j)
  differ i j h jm e =
      let same : w d i ≡ w d j = omega (arith, s.rooted.low i (omega arith), s.rooted.low j jm) in
      omega (arith, index_is s i (omega arith), index_is s j jm, ap (λ (p : ℕ). index_of p d.boundary) same)

  -- There are at most k.
  m_most : m d ≤ d.k
  m_most = few d.k (m d) (λ i. pred (w d i)) (w_placed d s.rooted) differ

  -- The column of a placed point is one of theirs.
  column-low : (p : ℕ) → p < d.k → column d (suc p) < m d
  column-low p pk = s.core.points.cols p pk

  -- A point that nobody owns stands on the boundary.
  stands : (p : ℕ) → p < d.k → get_or d.owners p 0 ≡ 0 → (i : ℕ) × (i < m d) × (w d i ≡ suc p)
  stands p pk e =
      let c : column d (suc p) ≡ index_of (suc p) d.boundary = ap (λ (q : ℕ). index_of q d.boundary) (climb-root d.owners d.k p e) in
      let b : index_of (suc p) d.boundary < m d = omega (arith, column-low p pk) in
      (index_of (suc p) d.boundary, b, index_at (suc p) d.boundary b)

  -- An owned point isn't its column's boundary point.
  off_boundary : (p o : ℕ) → p < d.k → get_or d.owners p 0 ≡ suc o → p ≢ pred (w d (column d (suc p)))
  off_boundary p o pk e q =
      let b = column-low p pk in
      let n : w d (column d (suc p)) ≡ suc p = omega (arith, s.rooted.low (column d (suc p)) b) in
      let i : index_of (suc p) d.boundary ≤ column d (suc p) = rw n at (index_le d.boundary (column d (suc p)) b) in
      omega (arith, s.rooted.free p (omega arith))

  -- Its owner is later, and placed.
  owner-later : (p o : ℕ) → p < d.k → get_or d.owners p 0 ≡ suc o → (p < o) × (o < d.k)
  owner-later p o pk e =
      let t = s.core.owners.owned p pk (off_boundary p o pk e) in
      let n : pred (get_or d.owners p 0) ≡ o = ap (λ (v : ℕ). pred v) e in
      omega arith

-- ---- with its links, gaps and owners

module _ {d : Drawing} (s : Sound d) {a : Arrays} {k : ℕ} (h : Placed d a k) (small : k ≤ 1024) where
  kept : d.k ≤ 1024
  kept = omega (arith, h.k)

  -- the x of boundary points 0, .., i are right
  pub record Upto (i : ℕ) (x : List ℕ) : Type 0 where
    pub long : length x ≡ 1024
    pub right : (j : ℕ) → j ≤ i → get_or x (pred (w d j)) 0 ≡ x_of d (w d j)

  -- One boundary point more.
  upto_next : (i : ℕ) (x : List ℕ) (v : ℕ) → suc i < m d → v ≡ x_of d (w d (suc i)) → Upto i x → Upto (suc i) (set x (pred (w d (suc i))) v)
  upto_next i x v im e u = record { long = length-set x (pred (w d (suc i))) v ∙ u.long; right = right }
    where
      right : (j : ℕ) → j ≤ suc i → get_or (set x (pred (w d (suc i))) v) (pred (w d j)) 0 ≡ x_of d (w d j)
      right j ji =
          elim (dec_lt j (suc i)) [
            | yes b ↦ get_or-set_other x (pred (w d (suc i))) (pred (w d j)) v 0 (differ s j (suc i) b im) ∙ u.right j (omega arith)
            | no b ↦
                let z : j ≡ suc i = omega arith in
                rw z (get_or-set_same x (pred (w d (suc i))) v 0 (omega (arith, u.long, kept, w_placed d s.rooted (suc i) im)) ∙ e)
          ]

  -- the walk stays within the arrays, and makes the x of boundary points right
  pub record Goes (steps p at : ℕ) (x : List ℕ) : Type 0 where
    pub walks : Walks a.next a.gap steps p at
    pub last : Upto (m d - 1) (walked a.next a.gap steps p at x)

  -- Behind the last boundary point, which is point 2, it ends.
  ended : (steps i p at : ℕ) (x : List ℕ) → suc i ≡ m d → p ≡ at_point a.next (w d i) → Upto i x → Goes steps p at x
  ended steps i p at x im ep u =
      let l : pred (w d i) ≡ 1 = s.core.corners.last i im in
      let z : w d i ≡ 2 = omega arith in
      let e : p ≡ 0 = ep ∙ ap (λ (v : ℕ). at_point a.next v) z ∙ h.last in
      let j : m d - 1 ≡ i = omega arith in
      record { walks = walks-past a.next a.gap steps p at e; last = rw (walked-past a.next a.gap steps p at x e, j) u }

  -- One boundary point more.
  further : (n i p at : ℕ) (x : List ℕ) → suc i < m d → p ≡ at_point a.next (w d i) → at ≡ x_of d (w d i) →
      (let q = pred (w d (suc i)) in at + get_or a.gap q 0 ≡ x_of d (w d (suc i)) → Goes n (get_or a.next q 0) (at + get_or a.gap q 0) (set x q (at + get_or a.gap q 0))) →
      Goes (suc n) p at x
  further n i p at x im ep ea rest =
      let q = pred (w d (suc i)) in
      let e : p ≡ suc q = ep ∙ h.link i im ∙ sym (w_suc d s.rooted (suc i) im) in
      let there : at + get_or a.gap q 0 ≡ x_of d (w d (suc i)) = omega (arith, h.step i im) in
      let placed : q < d.k = w_placed d s.rooted (suc i) im in
      let fits : at + get_or a.gap q 0 < 65536 = omega (arith, x_fits s q placed kept) in
      record {
        walks = go-walks a.next a.gap refl e at (omega (arith, kept)) fits (rest there).walks;
        last = rw (walked-go a.next a.gap {steps = n} refl e at x) (rest there).last;
      }

  -- From behind boundary point i on.
  goes : (steps i p at : ℕ) (x : List ℕ) → i < m d → m d ≤ suc i + steps → p ≡ at_point a.next (w d i) → at ≡ x_of d (w d i) → Upto i x → Goes steps p at x
  goes zero i p at x im enough ep ea u = ended zero i p at x (omega arith) ep u
  goes (suc n) i p at x im enough ep ea u =
      elim (dec_lt (suc i) (m d)) [
        | yes b ↦ further n i p at x b ep ea (λ e. goes n (suc i) _ _ _ b (omega arith) refl e (upto_next i x _ b e u))
        | no b ↦ ended (suc n) i p at x (omega arith) ep u
      ]

  -- The first pass, from point 1 at 0 on.
  pub walk_right : (x : List ℕ) → length x ≡ 1024 → Goes k (get_or a.next 0 0) 0 (set x 0 0)
  walk_right x long =
      let c = s.core.corners in
      let one : pred (w d 0) ≡ 0 = c.first in
      let origin : x_of d (w d 0) ≡ 0 = ap (λ (p : ℕ). get_or d.xs p 0) one ∙ c.origin.0 in
      goes k 0 (get_or a.next 0 0) 0 (set x 0 0) (omega (arith, c.size)) (omega (arith, m_most s, h.k)) (ap (λ (p : ℕ). get_or a.next p 0) (sym one)) (sym origin) (first one origin)
    where
      first : pred (w d 0) ≡ 0 → x_of d (w d 0) ≡ 0 → Upto 0 (set x 0 0)
      first one origin =
          record {
            long = length-set x 0 0 ∙ long;
            right = λ j j0.
                let z : j ≡ 0 = omega arith in
                rw z (ap (λ (p : ℕ). get_or (set x 0 0) p 0) one ∙ get_or-set_same x 0 0 0 (omega arith) ∙ sym origin);
          }

  -- the x of points whose index is p or more, and of boundary points, are right
  pub record Down (p : ℕ) (x : List ℕ) : Type 0 where
    pub long : length x ≡ 1024
    pub right : (q : ℕ) → q < d.k → p ≤ q → get_or x q 0 ≡ get_or d.xs q 0
    pub free : (q : ℕ) → q < d.k → get_or d.owners q 0 ≡ 0 → get_or x q 0 ≡ get_or d.xs q 0

  -- After the first pass none are but those of boundary points.
  down_first : (x : List ℕ) → Upto (m d - 1) x → Down k x
  down_first x u =
      record {
        long = u.long;
        right = λ q qk kq. absurd (omega (arith, h.k));
        free = λ q qk e.
            let t = stands s q qk e in
            let z : pred (w d t.0) ≡ q = ap (λ (v : ℕ). pred v) t.2 in
            rw z at (u.right t.0 (omega (arith, t.1)));
      }

  -- the x with that of the point at index p, whose owner is o
  pub record Hung (o p : ℕ) (x : List ℕ) : Type 0 where
    pub hangs : HangsBy o a.gap p x
    pub down : Down p (hang_by o a.gap p x)

  hang_next : (o p : ℕ) (x : List ℕ) → p < d.k → get_or d.owners p 0 ≡ o → Down (suc p) x → Hung o p x
  hang_next zero p x pk e u =
      record {
        hangs = tt;
        down = record {
          long = u.long;
          right = λ q qk pq.
              elim (ℕ_discrete q p) [
                | yes z ↦ rw z (u.free p pk e)
                | no z ↦ u.right q qk (omega arith)
              ];
          free = u.free;
        };
      }
  hang_next (suc o) p x pk e u =
      let later = owner-later s p o pk e in
      let there : get_or x o 0 ≡ get_or d.xs o 0 = u.right o later.1 later.0 in
      let way : get_or d.xs p 0 + gap_offset ≡ get_or d.xs o 0 + get_or a.gap p 0 = h.hang p o pk e in
      let v = get_or x o 0 + get_or a.gap p 0 - gap_offset in
      record {
        hangs = (omega (arith, kept, later), omega arith, omega (arith, x_fits s p pk kept));
        down = record {
          long = length-set x p v ∙ u.long;
          right = λ q qk pq.
              elim (ℕ_discrete q p) [
                | yes z ↦ rw z (get_or-set_same x p v 0 (omega (arith, kept, u.long)) ∙ omega arith)
                | no z ↦ get_or-set_other x p q v 0 z ∙ u.right q qk (omega arith)
              ];
          free = λ q qk f. get_or-set_other x p q v 0 (λ z. omega (arith, e, f, ap (λ (i : ℕ). get_or d.owners i 0) z)) ∙ u.free q qk f;
        };
      }

  -- The owner of a placed point, as it is stored.
  owner_is : (p : ℕ) → p < d.k → get_or d.owners p 0 ≡ get_or a.owner p 0
  owner_is p pk = ap (λ (l : List ℕ). get_or l p 0) (sym h.owner) ∙ get_or-take d.k a.owner p 0 pk

  -- the second pass over the indices p - 1, .., 0
  pub record Hangings (p : ℕ) (x : List ℕ) : Type 0 where
    pub hangs : Hangs a.gap a.owner p x
    pub down : Down 0 (hung a.gap a.owner p x)

  hangings : (p : ℕ) (x : List ℕ) → p ≤ d.k → Down p x → Hangings p x
  unfolding hung Hangs
  hangings zero x pk u = record { hangs = tt; down = u }
  hangings (suc p) x pk u =
      let t = hang_next (get_or a.owner p 0) p x pk (owner_is p pk) u in
      let b = hangings p (hang_by (get_or a.owner p 0) a.gap p x) (omega arith) t.down in
      record { hangs = (t.hangs, b.hangs); down = b.down }

  -- The second pass, over what the first one left.
  pub hang_right : (x : List ℕ) → Upto (m d - 1) x → Hangings k x
  hang_right x u = hangings k x (omega (arith, h.k)) (down_first x u)

  -- What it leaves are the x of the drawing.
  pub all_right : (x : List ℕ) → Down 0 x → take k x ≡ d.xs
  all_right x u =
      let n : length (take k x) ≡ k = length-take-le k x (omega (arith, u.long)) in
      ext_get_or 0 (take k x) d.xs (n ∙ h.k ∙ sym s.sized.xs)
      (λ i il. get_or-take k x i 0 (omega (arith, n)) ∙ u.right i (omega (arith, n, h.k)) (omega arith))

  -- So the first k numbers of the model are the drawing's x.
  pub settled_right : (x : List ℕ) → length x ≡ 1024 → take k (hung a.gap a.owner k (first_pass a.next a.gap k x)) ≡ d.xs
  settled_right x long = all_right _ (hang_right _ (walk_right x long).last).down

-- ---- what the two passes are known to be, of any arrays that can be settled

module _ {x : List ℕ} {a : Arrays} {k : ℕ} (h : Settleable x a k) where
  -- The first pass.
  first : Goes h.sound h.placed h.small k (get_or a.next 0 0) 0 (set x 0 0)
  first = walk_right h.sound h.placed h.small x h.long

  -- The second.
  second : Hangings h.sound h.placed h.small k (first_pass a.next a.gap k x)
  second = hang_right h.sound h.placed h.small (first_pass a.next a.gap k x) first.last

  pub first_walks : Walks a.next a.gap k (get_or a.next 0 0) 0
  first_walks = first.walks

  pub first_long : length (first_pass a.next a.gap k x) ≡ 1024
  first_long = first.last.long

  pub second_hangs : Hangs a.gap a.owner k (first_pass a.next a.gap k x)
  second_hangs = second.hangs

  pub both_settle : Settled (hung a.gap a.owner k (first_pass a.next a.gap k x)) a k
  both_settle = record { right = λ d s p. settled_right s p h.small x h.long; long = second.down.long }
