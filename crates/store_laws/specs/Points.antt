-- An accepted call, and the numbers of each point after it: heights, ports, depths of rows and owners are the next drawing's.
use Rattle.std.specs.Prelude.{ℕ, zero, suc, pred, ◌+◌, ◌-◌, ◌/◌, ◌<◌, ◌≤◌, ◌≡◌, refl, ◌≢◌, Bool, true, false, List, [], ◌∷◌, map, get_or, take, set}
use Rattle.std.proofs.Common.{ap, ◌∙◌, true≢false, arith, take-suc-set, ext_get_or}
use Rattle.std.proofs.Math.Path.{sym}
use Rattle.std.proofs.Math.Decide.{ℕ_discrete}
use Rattle.std.proofs.Math.ListN.{length}
use Rattle.std.proofs.Math.Seq.{take-set-lt, length-take-le, get_or-take}
use Rattle.std.proofs.lemmas.List.{set-append_left}
use Rattle.rules.specs.Basics.{alter, snoc, index_of}
use Rattle.rules.specs.Styles.{taken}
use Rattle.rules.specs.Points.{Drawing, w, m}
use Rattle.rules.specs.Readings.{entry_of}
use Rattle.rules.proofs.Lengths.{length-call, length-snoc, first_at}
use Rattle.rules.specs.Adding.{spread, new_y, inside, owned}
use Rattle.net.specs.Side.{rt, lf}
use Rattle.store_links.specs.declared.Spot.{Spot}
use Rattle.store_links.specs.declared.Counts.{Counts}
use Rattle.store_links.specs.Arrays.{Arrays, Sized, Stores, at_point}
use Rattle.store_links.specs.Placing.{entry_point, inner_count}
use Rattle.store_links.specs.Runs.{Within, Distinct}
use Rattle.store_links.specs.Storing.{put_at, covered_owners, with_point}
use Rattle.promise.specs.Sound.{Sound}
use Rattle.promise.specs.Next.{IsRun, next}
use Rattle.promise.specs.Climb.{Took}
use Rattle.rules.specs.Indices.{index_at}
use Rattle.promise.specs.Columns.{new_owners, k_next, owners_next, took, inside_true, true_inside, length-owned, index_is}
use Rattle.promise.specs.Counts.{ports_next, hs_next}
use Rattle.store_laws.specs.Reading.{run-size, entry_is}
use Rattle.store_laws.specs.Spotted.{Spotted}
use Rattle.store_laws.specs.Puts.{put_same, put_other, length-put, length-owners, owners_in, owners_out}

-- the entries es over the run l .. r of d, which the arrays a and the numbers c store: all that a call is known to be
pub record Call (d : Drawing) (a : Arrays) (c : Counts) (es : List ℕ) (l r : ℕ) (p : Spot) (from : ℕ) : Type 0 where
  pub sound : Sound d
  pub room : d.k < 1024
  pub sized : Sized a
  pub stores : Stores d a c
  pub within : Within c.k es
  pub distinct : Distinct es
  pub run : IsRun d (map entry_of es) l r
  pub spotted : Spotted d es l r p from
  pub fits : length d.lines + length es ≤ 3072

-- the drawing after the call
abbrev pub after : Drawing → List ℕ → ℕ → ℕ → Drawing
after d es l r = next d (map entry_of es) l r

-- point v is that of an inner entry
pub record Inner (es : List ℕ) (l r v : ℕ) : Type 0 where
  pub j : ℕ
  pub low : 0 < j
  pub high : l + j < r
  pub last : j ≤ inner_count es
  pub entry : v ≡ entry_point es j

-- the owners once the new point v owns the inner points
abbrev owners_over : Arrays → List ℕ → ℕ → List ℕ
owners_over a es v = covered_owners a.owner es v (inner_count es)

-- and with the new point's own
abbrev owners_with : Arrays → List ℕ → ℕ → List ℕ
owners_with a es v = put_at (owners_over a es v) v 0

-- ---- plain lists

-- To alter element p is to put there what f says of it.
alter-set : (f : ℕ → ℕ) (l : List ℕ) (p : ℕ) → 0 < p → alter f l p ≡ set l (pred p) (f (get_or l (pred p) 0))
alter-set f [] p h = refl
alter-set f (x ∷ l) zero h = absurd (omega arith)
alter-set f (x ∷ l) (suc zero) h = refl
alter-set f (x ∷ l) (suc (suc i)) h = ap (λ (t : List ℕ). x ∷ t) (alter-set f l (suc i) (omega arith))

-- One more number behind the first k, and what f says of the one at point p among them.
take_altered : (f : ℕ → ℕ) (l g : List ℕ) (k p : ℕ) → k < length l → 0 < p → p ≤ k → take k l ≡ g → take (suc k) (put_at (put_at l (suc k) 0) p (f (at_point l p))) ≡ snoc (alter f g p) 0
take_altered f l g k p h z b e =
    let long : length (take k l) ≡ k = length-take-le k l (omega arith) in
    take-set-lt (suc k) (set l k 0) (pred p) (f (at_point l p)) (omega arith) ∙
    ap (λ (t : List ℕ). set t (pred p) (f (at_point l p))) (take-suc-set l k 0 h) ∙
    set-append_left (take k l) (0 ∷ []) (pred p) (f (at_point l p)) (omega arith) ∙
    ap (λ (t : List ℕ). snoc (set t (pred p) (f (at_point l p))) 0) e ∙
    ap (λ (n : ℕ). snoc (set g (pred p) (f n)) 0) (first_at l g k (pred p) e (omega arith)) ∙
    ap (λ (t : List ℕ). snoc t 0) (sym (alter-set f g p z))

-- One more number behind the first k.
take_more : (l g : List ℕ) (k v : ℕ) → k < length l → take k l ≡ g → take (suc k) (put_at l (suc k) v) ≡ snoc g v
take_more l g k v h e = take-suc-set l k v h ∙ ap (λ (t : List ℕ). snoc t v) e

-- The heights after the call, with the new point's behind the others.
ys_after : (d : Drawing) (es : List ℕ) (l r : ℕ) → (after d es l r).ys ≡ snoc d.ys (new_y l r (spread l r d))
unfolding next
ys_after d es l r = refl

module _ {d : Drawing} {a : Arrays} {c : Counts} {es : List ℕ} {l r : ℕ} {p : Spot} {from : ℕ} (h : Call d a c es l r p from) where
  -- ---- the run

  -- It has r - l + 1 points.
  pub size : l + length es ≡ suc r
  size = run-size es h.run

  -- The first entry names wl.
  pub first_w : entry_point es 0 ≡ w d l
  first_w = let e : l + 0 ≡ l = omega arith in entry_is es h.run 0 (omega (arith, h.run.lr)) ∙ ap (w d) e

  -- The last one names wr.
  pub last_w : entry_point es (length es - 1) ≡ w d r
  last_w =
      let e : l + (length es - 1) ≡ r = omega (arith, size, h.run.lr) in
      entry_is es h.run (length es - 1) (omega arith) ∙ ap (w d) e

  -- wl stands on the boundary.
  pub lm : l < m d
  lm = omega (arith, h.run.lr, h.run.rm)

  -- A boundary point is one of the points 1 to k.
  pub w_low : (i : ℕ) → i < m d → (0 < w d i) × (w d i ≤ d.k)
  w_low i im = h.sound.rooted.low i im

  -- Boundary points with different indices differ.
  pub w_differ : (i j : ℕ) → i < m d → j < m d → i ≢ j → w d i ≢ w d j
  w_differ i j im jm n e = n (sym (index_is h.sound i im) ∙ ap (λ (q : ℕ). index_of q d.boundary) e ∙ index_is h.sound j jm)

  -- ---- heights, depths of rows, ports

  -- The heights are the next drawing's.
  pub ys_kept : take (after d es l r).k (with_point a c es p from).ys ≡ (after d es l r).ys
  unfolding with_point
  ys_kept =
      rw (k_next, h.stores.k, h.spotted.y, ys_after)
      (take_more a.ys d.ys d.k (new_y l r (spread l r d)) (omega (arith, h.sized.ys, h.room)) h.stores.ys)

  -- The depths of the middle rows are the next drawing's.
  pub hs_kept : take (after d es l r).k (with_point a c es p from).hs ≡ (after d es l r).hs
  unfolding with_point
  hs_kept =
      rw (k_next, h.stores.k, h.spotted.h, hs_next, length-call es)
      (take_more a.hs d.hs d.k (length es / 2) (omega (arith, h.sized.hs, h.room)) h.stores.hs)

  -- The left ports are the next drawing's.
  pub dls_kept : take (after d es l r).k (with_point a c es p from).dls ≡ (after d es l r).dls
  unfolding with_point
  dls_kept =
      let b = w_low r h.run.rm in
      rw (k_next, h.stores.k, h.stores.style, last_w)
      (take_altered (taken d.style) a.dls d.dls d.k (w d r) (omega (arith, h.sized.dls, h.room)) b.0 b.1 h.stores.dls) ∙
      sym (ports_next d (map entry_of es) l r lf)

  -- The right ports are the next drawing's.
  pub drs_kept : take (after d es l r).k (with_point a c es p from).drs ≡ (after d es l r).drs
  unfolding with_point
  drs_kept =
      let b = w_low l lm in
      rw (k_next, h.stores.k, h.stores.style, first_w)
      (take_altered (taken d.style) a.drs d.drs d.k (w d l) (omega (arith, h.sized.drs, h.room)) b.0 b.1 h.stores.drs) ∙
      sym (ports_next d (map entry_of es) l r rt)

  -- ---- owners

  -- The new point took the points inside the run.
  pub taking : Took d.owners (new_owners d l r) (inside l r d.boundary) d.k
  taking = took d l r h.sound.sized h.sound.rooted h.run.lr h.run.rm

  -- The points of the inner entries are inside the run.
  pub entry_inside : (j : ℕ) → 0 < j → j ≤ inner_count es → inside l r d.boundary (entry_point es j) ≡ true
  entry_inside j z b =
      let jr : l + j < r = omega (arith, size, h.run.lr) in
      let e : index_of (entry_point es j) d.boundary ≡ l + j =
      ap (λ (q : ℕ). index_of q d.boundary) (entry_is es h.run j (omega arith)) ∙ index_is h.sound (l + j) (omega (arith, h.run.rm))
      in
      true_inside l r d.boundary (entry_point es j) (omega arith) (omega arith)

  -- A point inside the run is that of an inner entry.
  pub inner-entry : (q : ℕ) → inside l r d.boundary (suc q) ≡ true → Inner es l r (suc q)
  inner-entry q e =
      let i = inside_true l r d.boundary (suc q) e in
      let j : ℕ = index_of (suc q) d.boundary - l in
      let s : l + j ≡ index_of (suc q) d.boundary = omega arith in
      let t : suc q ≡ w d (l + j) = sym (index_at (suc q) d.boundary (omega (arith, h.run.rm))) ∙ ap (w d) (sym s) in
      record { j = j; low = omega arith; high = omega arith; last = omega (arith, size); entry = t ∙ sym (entry_is es h.run j (omega arith)) }

  -- A point that is not inside the run is that of no inner entry.
  pub not_entry : (q : ℕ) → inside l r d.boundary q ≡ false → (j : ℕ) → 0 < j → j ≤ inner_count es → q ≢ entry_point es j
  not_entry q e j z b t = true≢false (sym (ap (inside l r d.boundary) t ∙ entry_inside j z b) ∙ e)

  -- The inner entries are fewer than all.
  pub inner_in : inner_count es < length es
  inner_in = omega (arith, size, h.run.lr)

  -- There is room for the new point.
  room_new : d.k < length (owners_over a es (suc d.k))
  room_new = omega (arith, h.room, h.sized.owner, length-owners a.owner es (suc d.k) (inner_count es))

  -- The owner of an old point, by whether it lies inside the run.
  owner_old : (q : ℕ) → q < d.k → (t : Bool) → inside l r d.boundary (suc q) ≡ t → get_or (owners_with a es (suc d.k)) q 0 ≡ get_or (new_owners d l r) q 0
  owner_old q b true e =
      let t = inner-entry q e in
      put_other (owners_over a es (suc d.k)) (suc d.k) (suc q) 0 (omega arith) (omega arith) (omega arith) ∙
      ap (at_point (owners_over a es (suc d.k))) t.entry ∙
      owners_in es c.k (inner_count es) h.within inner_in a.owner (suc d.k) (omega (arith, h.stores.k, h.sized.owner, h.room)) h.distinct t.j t.low t.last ∙
      sym (taking.taken q e)
  owner_old q b false e =
      put_other (owners_over a es (suc d.k)) (suc d.k) (suc q) 0 (omega arith) (omega arith) (omega arith) ∙
      owners_out es c.k (inner_count es) h.within inner_in a.owner (suc d.k) (suc q) (omega arith) (not_entry (suc q) e) ∙
      first_at a.owner d.owners d.k q h.stores.owner b ∙
      sym (taking.other q e)

  -- The owner of any point.
  owner_at : (q : ℕ) → q < suc d.k → get_or (owners_with a es (suc d.k)) q 0 ≡ get_or (new_owners d l r) q 0
  owner_at q b =
      elim (ℕ_discrete q d.k) [
        | yes e ↦ rw e (put_same (owners_over a es (suc d.k)) (suc d.k) 0 room_new ∙ sym taking.top)
        | no n ↦ owner_old q (omega arith) (inside l r d.boundary (suc q)) refl
      ]

  -- There is one owner for each point.
  length_new : length (new_owners d l r) ≡ suc d.k
  length_new = length-snoc (owned (inside l r d.boundary) (suc d.k) 1 d.owners) 0 ∙ ap suc (length-owned (inside l r d.boundary) (suc d.k) 1 d.owners ∙ h.sound.sized.owners)

  -- The owners are the next drawing's.
  pub owner_kept : take (after d es l r).k (with_point a c es p from).owner ≡ (after d es l r).owners
  unfolding with_point
  owner_kept =
      let long : length (take (suc d.k) (owners_with a es (suc d.k))) ≡ suc d.k =
      length-take-le (suc d.k) (owners_with a es (suc d.k)) (omega (arith, room_new, length-put (owners_over a es (suc d.k)) (suc d.k) 0))
      in
      rw (k_next, h.stores.k, owners_next)
      (ext_get_or 0 (take (suc d.k) (owners_with a es (suc d.k))) (new_owners d l r) (long ∙ sym length_new)
      (λ q b. get_or-take (suc d.k) (owners_with a es (suc d.k)) q 0 (omega arith) ∙ owner_at q (omega arith)))
