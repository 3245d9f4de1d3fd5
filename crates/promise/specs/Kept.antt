-- What an accepted call keeps: every list has one number for each point, points climb to the boundary, and owners stay or are the new point.
use Rattle.std.specs.Prelude.{ℕ, suc, pred, ◌<◌, ◌≤◌, ◌≡◌, ◌≢◌, Bool, true, false, List, length, get_or, if◌then◌else◌}
use Rattle.std.proofs.Math.Path.{refl}
use Rattle.std.proofs.Common.{ap, sym, ◌∙◌, arith}
use Rattle.std.proofs.Math.Decide.{dec_lt}
use Rattle.net.specs.Side.{rt, lf}
use Rattle.net.specs.Adds.{Owning}
use Rattle.rules.specs.declared.Entry.{Entry}
use Rattle.rules.specs.Basics.{index_of, snoc, alter}
use Rattle.rules.specs.Styles.{taken}
use Rattle.rules.specs.Points.{Drawing, owner_of, w, m}
use Rattle.rules.proofs.Lengths.{length-snoc}
use Rattle.rules.specs.Moving.{climb}
use Rattle.rules.specs.Adding.{spread, inside, owned, points_of, row_height}
use Rattle.promise.specs.Nets.{net_of}
use Rattle.promise.specs.Sound.{Sound, Sized, Rooted, Root}
use Rattle.promise.specs.Next.{IsRun, next}
use Rattle.promise.specs.Climb.{Took}
use Rattle.rules.specs.Indices.{index_at}
use Rattle.promise.specs.Columns.{new_owners, k_next, owners_next, length-owned, column_on, w_suc, index_is, inside_true, true_inside, false_inside, took, climb_next, climb_new}
use Rattle.promise.specs.Border.{Stands, old, put, stands_next}
use Rattle.promise.specs.Moved.{length-spread}
use Rattle.promise.specs.Counts.{length-alter, ports_next, hs_next, ys_next}

-- ---- sizes

-- The x of the new drawing, with the new point's own behind them.
pub xs_next : (d : Drawing) (es : List Entry) (l r : ℕ) → (x : ℕ) × ((next d es l r).xs ≡ snoc (spread l r d).xs x)
unfolding next
xs_next d es l r = (_, refl)

module _ (d : Drawing) (es : List Entry) (l r : ℕ) (s : Sound d) (q : IsRun d es l r) where
  -- A list that is one longer than an old one fits the new drawing.
  one_more : (b : List ℕ) (x : ℕ) {a : List ℕ} → a ≡ snoc b x → length b ≡ d.k → length a ≡ (next d es l r).k
  one_more b x e h = ap length e ∙ length-snoc b x ∙ ap suc h ∙ sym (k_next d es l r)

  -- Every list has one number for each point of the new drawing.
  pub sized' : Sized (next d es l r)
  sized' =
      let z = s.sized in
      let o = owned (inside l r d.boundary) (suc d.k) 1 d.owners in
      record {
        owners = one_more o 0 (owners_next d es l r) (length-owned (inside l r d.boundary) (suc d.k) 1 d.owners ∙ z.owners);
        xs = one_more (spread l r d).xs (xs_next d es l r).0 (xs_next d es l r).1 (length-spread d l r ∙ z.xs);
        ys = one_more d.ys (ys_next d es l r).0 (ys_next d es l r).1 z.ys;
        dls = one_more (alter (taken d.style) d.dls (w d r)) 0 (ports_next d es l r lf) (length-alter (taken d.style) d.dls (w d r) ∙ z.dls);
        drs = one_more (alter (taken d.style) d.drs (w d l)) 0 (ports_next d es l r rt) (length-alter (taken d.style) d.drs (w d l) ∙ z.drs);
        hs = one_more d.hs (row_height (points_of es)) (hs_next d es l r) z.hs;
      }

  -- ---- owners

  -- The new point took the points inside the run.
  taking : Took d.owners (new_owners d l r) (inside l r d.boundary) d.k
  taking = took d l r s.sized s.rooted q.lr q.rm

  -- An owner in the new drawing, read from the list of new owners.
  owner_next : (p : ℕ) → owner_of (next d es l r) (suc p) ≡ get_or (new_owners d l r) p 0
  unfolding next
  owner_next p = refl

  -- A point inside the run is its column's boundary point.
  pub own-column : (p : ℕ) → inside l r d.boundary (suc p) ≡ true → p ≡ (net_of d).w ((net_of d).col p)
  own-column p e =
      let i = inside_true l r d.boundary (suc p) e in
      let h : index_of (suc p) d.boundary < m d = omega (arith, q.rm) in
      ap (λ (v : ℕ). pred v) (sym (index_at (suc p) d.boundary h)) ∙ ap (λ (c : ℕ). pred (w d c)) (sym (column_on d s.rooted p h))

  -- Every point that is not inside the run keeps its owner.
  own_same : (p : ℕ) → inside l r d.boundary (suc p) ≡ false → (net_of (next d es l r)).own p ≡ (net_of d).own p
  own_same p e = ap (λ (v : ℕ). pred v) (owner_next p ∙ taking.other p e)

  -- The new point owns every point inside the run.
  own_taken : (p : ℕ) → inside l r d.boundary (suc p) ≡ true → (net_of (next d es l r)).own p ≡ d.k
  own_taken p e = ap (λ (v : ℕ). pred v) (owner_next p ∙ taking.taken p e)

  -- A point that isn't its column's boundary point keeps its owner.
  own_old : (p : ℕ) → p ≢ (net_of d).w ((net_of d).col p) → (net_of (next d es l r)).own p ≡ (net_of d).own p
  own_old p n = go (inside l r d.boundary (suc p)) refl
    where
      go : (t : Bool) → inside l r d.boundary (suc p) ≡ t → (net_of (next d es l r)).own p ≡ (net_of d).own p
      go true e = absurd (n (own-column p e))
      go false e = own_same p e

  -- The new point owns boundary point c, for c strictly between l and r.
  own_new : (c : ℕ) → l < c → c < r → (net_of (next d es l r)).own ((net_of d).w c) ≡ (net_of d).k
  own_new c h k =
      let b : c < m d = omega (arith, q.rm) in
      let e : index_of (suc (pred (w d c))) d.boundary ≡ c = ap (λ (p : ℕ). index_of p d.boundary) (w_suc d s.rooted c b) ∙ index_is s c b in
      own_taken (pred (w d c)) (true_inside l r d.boundary (suc (pred (w d c))) (omega arith) (omega arith))

  -- The owners of the new drawing.
  pub owning : Owning (net_of d) (net_of (next d es l r)) l r
  owning = record { own_old = λ p pk n. own_old p n; own_new = own_new }

  -- ---- roots

  -- A root in the new drawing, from what its lists say.
  root_at : (p z : ℕ) → climb (suc d.k) (new_owners d l r) (suc p) ≡ suc z → z < suc d.k → get_or (new_owners d l r) z 0 ≡ 0 → Root (next d es l r) (suc p)
  unfolding next
  root_at p z up h e = record { z = z; up = up; placed = h; nobody = e }

  -- An old point climbs to the new point or to its old root.
  root_old : (p : ℕ) → Root d (suc p) → Root (next d es l r) (suc p)
  root_old p ρ = go (inside l r d.boundary (suc ρ.z)) refl (climb_next d l r s.sized s.rooted q.lr q.rm p ρ)
    where
      go : (t : Bool) → inside l r d.boundary (suc ρ.z) ≡ t →
          climb (suc d.k) (new_owners d l r) (suc p) ≡ (if inside l r d.boundary (suc ρ.z) then suc d.k else suc ρ.z) →
          Root (next d es l r) (suc p)
      go true e up = root_at p d.k (rw e at up) (omega arith) taking.top
      go false e up = root_at p ρ.z (rw e at up) (omega (arith, ρ.placed)) (taking.other ρ.z e ∙ ρ.nobody)

  -- So every point of the new drawing has a root.
  root' : (p : ℕ) → p < (next d es l r).k → Root (next d es l r) (suc p)
  root' p h =
      elim (dec_lt p d.k) [
        | yes b ↦ root_old p (s.rooted.root p b)
        | no b ↦
            let e : p ≡ d.k = omega (arith, k_next d es l r) in
            rw e (root_at d.k d.k (climb_new d l r s.sized s.rooted q.lr q.rm) (omega arith) taking.top)
      ]

  -- Nobody owns a point that stands on the new boundary.
  free_at : (p i v : ℕ) → v ≡ suc p → Stands d.boundary l r (suc d.k) i v → get_or (new_owners d l r) p 0 ≡ 0
  free_at p i v e (old j jm o ej ev) =
      let k : index_of (suc p) d.boundary ≡ j = ap (λ (a : ℕ). index_of a d.boundary) (sym e ∙ ev) ∙ index_is s j jm in
      taking.other p (false_inside l r d.boundary (suc p) (rw k o)) ∙ s.rooted.free p (omega arith)
  free_at p i v e (put ei ev) =
      let k : p ≡ d.k = omega arith in
      ap (λ (a : ℕ). get_or (new_owners d l r) a 0) k ∙ taking.top

  -- The same, for the index of the point on the new boundary.
  free' : (p : ℕ) → index_of (suc p) (next d es l r).boundary < m (next d es l r) → owner_of (next d es l r) (suc p) ≡ 0
  free' p h = owner_next p ∙ free_at p _ _ (index_at (suc p) (next d es l r).boundary h) (stands_next d es l r s q _ h)

  -- A point of the new boundary is placed.
  low_at : (i v : ℕ) → Stands d.boundary l r (suc d.k) i v → (0 < v) × (v ≤ (next d es l r).k)
  low_at i v (old j jm o ej ev) = let b = s.rooted.low j jm in omega (arith, k_next d es l r)
  low_at i v (put ei ev) = omega (arith, k_next d es l r)

  -- Every point of the new drawing climbs to its boundary.
  pub rooted' : Rooted (next d es l r)
  rooted' = record { root = root'; free = free'; low = λ i h. low_at i _ (stands_next d es l r s q i h) }
