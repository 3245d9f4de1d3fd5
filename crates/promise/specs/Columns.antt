-- Columns after an accepted call: the old ones joined, and the new point's own.
use Rattle.std.specs.Prelude.{ℕ, zero, suc, pred, ◌+◌, ◌<◌, ◌≤◌, ◌≡◌, Bool, true, false, List, [], ◌∷◌, ◌++◌, length, get_or, take, drop, if◌then◌else◌}
use Rattle.std.proofs.Math.Path.{refl}
use Rattle.std.proofs.Common.{ap, sym, ◌∙◌, le_of_suc-le-suc, not-suc-le-zero, add-zero, add-suc, suc-add, arith, length-append, lt-ltb}
use Rattle.std.proofs.Math.Decide.{dec_lt, ℕ_discrete}
use Rattle.std.proofs.Math.ListN.{get_or-append, get_or-eq_default}
use Rattle.std.proofs.lemmas.List.{get_or_at}
use Rattle.net.specs.Adds.{join}
use Rattle.rules.specs.declared.Entry.{Entry}
use Rattle.rules.specs.Basics.{index_of, snoc}
use Rattle.rules.specs.Points.{Drawing, w, m}
use Rattle.rules.specs.Moving.{climb, column}
use Rattle.rules.specs.Adding.{inside, owned}
use Rattle.promise.specs.Nets.{net_of}
use Rattle.promise.specs.Sound.{Sound, Sized, Rooted, Root}
use Rattle.promise.specs.Next.{IsRun, next}
use Rattle.promise.specs.Climb.{Took, climb-root, climb-took}
use Rattle.rules.specs.Indices.{index_at, index_le}
use Rattle.promise.specs.Index.{index-joined, index_new, Outside, before, behind, Within, within, without, within_of}

-- the owners and the boundary once the new point stands over the run l .. r
abbrev pub new_owners : Drawing → ℕ → ℕ → List ℕ
new_owners d l r = snoc (owned (inside l r d.boundary) (suc d.k) 1 d.owners) 0

abbrev pub new_boundary : Drawing → ℕ → ℕ → List ℕ
new_boundary d l r = take (suc l) d.boundary ++ suc d.k ∷ drop r d.boundary

-- The new drawing has one point more.
pub k_next : (d : Drawing) (es : List Entry) (l r : ℕ) → (next d es l r).k ≡ suc d.k
unfolding next
k_next d es l r = refl

-- It is of the same style.
pub style_next : (d : Drawing) (es : List Entry) (l r : ℕ) → (next d es l r).style ≡ d.style
unfolding next
style_next d es l r = refl

-- Its owners are the new owners.
pub owners_next : (d : Drawing) (es : List Entry) (l r : ℕ) → (next d es l r).owners ≡ new_owners d l r
unfolding next
owners_next d es l r = refl

-- Its boundary is the new boundary.
pub boundary_next : (d : Drawing) (es : List Entry) (l r : ℕ) → (next d es l r).boundary ≡ new_boundary d l r
unfolding next
boundary_next d es l r = refl

-- ---- owners, over plain lists

-- Owner p of the new list is the new point where p passes the test, and the old owner where it does not.
get_d_owned : (t : ℕ → Bool) (new q : ℕ) (os : List ℕ) (p : ℕ) → p < length os → get_or (owned t new q os) p 0 ≡ (if t (q + p) then new else get_or os p 0)
get_d_owned t new q [] p h = absurd (not-suc-le-zero h)
get_d_owned t new q (o ∷ os) zero h = rw add-zero
get_d_owned t new q (o ∷ os) (suc p) h = rw (add-suc, ← suc-add) (get_d_owned t new (suc q) os p (le_of_suc-le-suc h))

-- The list keeps its length.
pub length-owned : (t : ℕ → Bool) (new q : ℕ) (os : List ℕ) → length (owned t new q os) ≡ length os
length-owned t new q [] = refl
length-owned t new q (o ∷ os) = ap suc (length-owned t new (suc q) os)

-- ---- a drawing whose points climb to the boundary

module _ (d : Drawing) (g : Rooted d) where
  -- A boundary point climbs to itself, so its column is its index.
  pub column_on : (p : ℕ) → index_of (suc p) d.boundary < m d → column d (suc p) ≡ index_of (suc p) d.boundary
  column_on p h = ap (λ (q : ℕ). index_of q d.boundary) (climb-root d.owners d.k p (g.free p h))

  -- A boundary point is a point.
  pub w_suc : (i : ℕ) → i < m d → suc (pred (w d i)) ≡ w d i
  w_suc i h = omega (arith, g.low i h)

  -- It is placed.
  pub w_placed : (i : ℕ) → i < m d → pred (w d i) < d.k
  w_placed i h = omega (arith, g.low i h)

  -- Boundary point i has index i, where its column is i: so no point stands on the boundary twice.
  index_w : (i : ℕ) → i < m d → column d (suc (pred (w d i))) ≡ i → index_of (w d i) d.boundary ≡ i
  index_w i h e =
      let n = w_suc i h in
      let at : index_of (suc (pred (w d i))) d.boundary < m d = rw n (omega (arith, index_le d.boundary i h)) in
      ap (λ (q : ℕ). index_of q d.boundary) (sym n) ∙ sym (column_on (pred (w d i)) at) ∙ e

-- So boundary point i of a sound drawing has index i.
pub index_is : {d : Drawing} → Sound d → (i : ℕ) → i < m d → index_of (w d i) d.boundary ≡ i
index_is {d} s i h = index_w d s.rooted i h (s.core.points.on i h).1

-- ---- the covering

-- Where the test of `inside` passes, the index lies strictly between l and r.
pub inside_true : (l r : ℕ) (b : List ℕ) (p : ℕ) → inside l r b p ≡ true → (l < index_of p b) × (index_of p b < r)
inside_true l r b p e = go (inside l r b p) (within_of l r (index_of p b)) e
  where
    go : (t : Bool) → Within l r (index_of p b) t → t ≡ true → (l < index_of p b) × (index_of p b < r)
    go true (within h k) e = (h, k)
    go false (without o) e = let z : ◌≡◌ {A = ℕ} 0 1 = cc in absurd (omega arith)

-- Where the index lies strictly between, the test passes.
pub true_inside : (l r : ℕ) (b : List ℕ) (p : ℕ) → l < index_of p b → index_of p b < r → inside l r b p ≡ true
true_inside l r b p h k = rw (lt-ltb l (index_of p b) h, lt-ltb (index_of p b) r k)

-- Where it lies outside, the test fails.
pub false_inside : (l r : ℕ) (b : List ℕ) (p : ℕ) → Outside l r (index_of p b) → inside l r b p ≡ false
false_inside l r b p o = go (inside l r b p) (within_of l r (index_of p b)) o
  where
    go : (t : Bool) → Within l r (index_of p b) t → Outside l r (index_of p b) → t ≡ false
    go true (within h k) (before e) = absurd (omega arith)
    go true (within h k) (behind e) = absurd (omega arith)
    go false v o = refl

module _ (d : Drawing) (l r : ℕ) (z : Sized d) (g : Rooted d) (lr : l < r) (rm : r < m d) where
  -- The list of new owners without its last is as long as the old one.
  length_front : length (owned (inside l r d.boundary) (suc d.k) 1 d.owners) ≡ d.k
  length_front = length-owned (inside l r d.boundary) (suc d.k) 1 d.owners ∙ z.owners

  -- The new owner of a placed point, by the test.
  owner_by : (p : ℕ) (t : Bool) → p < d.k → inside l r d.boundary (suc p) ≡ t → get_or (new_owners d l r) p 0 ≡ (if t then suc d.k else get_or d.owners p 0)
  owner_by p t h e =
      let one : 1 + p ≡ suc p = omega arith in
      get_or-append (owned (inside l r d.boundary) (suc d.k) 1 d.owners) (0 ∷ []) 0 p (omega (arith, length_front)) ∙
      get_d_owned (inside l r d.boundary) (suc d.k) 1 d.owners p (omega (arith, z.owners)) ∙
      ap (λ (u : Bool). if u then suc d.k else get_or d.owners p 0) (ap (λ (q : ℕ). inside l r d.boundary q) one ∙ e)

  -- Nobody owns the new point.
  owner-top : get_or (new_owners d l r) d.k 0 ≡ 0
  owner-top = get_or_at (owned (inside l r d.boundary) (suc d.k) 1 d.owners) 0 [] 0 d.k length_front

  -- A covered point was placed.
  inside_placed : (p : ℕ) → inside l r d.boundary (suc p) ≡ true → p < d.k
  inside_placed p e =
      let i = inside_true l r d.boundary (suc p) e in
      let h : index_of (suc p) d.boundary < m d = omega arith in
      omega (arith, index_at (suc p) d.boundary h, g.low (index_of (suc p) d.boundary) h)

  -- Every point that is not covered keeps its owner.
  owner_other : (p : ℕ) → inside l r d.boundary (suc p) ≡ false → get_or (new_owners d l r) p 0 ≡ get_or d.owners p 0
  owner_other p e =
      elim (dec_lt p d.k) [
        | yes h ↦ owner_by p false h e
        | no h ↦ elim (ℕ_discrete p d.k) [
          | yes k ↦ ap (λ (q : ℕ). get_or (new_owners d l r) q 0) k ∙ owner-top ∙ sym (none (omega arith))
          | no k ↦ get_or-eq_default (new_owners d l r) 0 (simp (length-append, length_front) (omega arith)) ∙ sym (none (omega arith))
        ]
      ]
    where
      none : d.k ≤ p → get_or d.owners p 0 ≡ 0
      none h = get_or-eq_default d.owners 0 (omega (arith, z.owners))

  -- The new point took the covered points.
  pub took : Took d.owners (new_owners d l r) (inside l r d.boundary) d.k
  took =
      record {
        taken = λ p e. owner_by p true (inside_placed p e) e;
        other = owner_other;
        free = λ p e. g.free p (omega (arith, inside_true l r d.boundary (suc p) e));
        top = owner-top;
      }

  -- The new point's index on the new boundary.
  pub new_index : index_of (suc d.k) (new_boundary d l r) ≡ suc l
  new_index = index_new (suc d.k) l d.boundary (drop r d.boundary) (λ i k e. omega (arith, g.low i k, e)) (omega arith)

  -- Where the goal of a climb stands on the new boundary, by the test.
  goal_index : (p : ℕ) → p < d.k → (t : Bool) → Within l r (index_of (suc p) d.boundary) t →
      index_of (if t then suc d.k else suc p) (new_boundary d l r) ≡ join l r (index_of (suc p) d.boundary)
  goal_index p h true (within u v) = new_index ∙ omega arith
  goal_index p h false (without o) = index-joined (suc p) (suc d.k) l r d.boundary (λ e. omega (arith, e)) lr rm o

  -- Where a point climbs to in the new drawing.
  pub climb_next : (p : ℕ) (ρ : Root d (suc p)) →
      climb (suc d.k) (new_owners d l r) (suc p) ≡ (if inside l r d.boundary (suc ρ.z) then suc d.k else suc ρ.z)
  climb_next p ρ = climb-took d.owners (new_owners d l r) (inside l r d.boundary) d.k took d.k p ρ.z ρ.up ρ.nobody

  -- The new point climbs to itself.
  pub climb_new : climb (suc d.k) (new_owners d l r) (suc d.k) ≡ suc d.k
  climb_new = climb-root (new_owners d l r) (suc d.k) d.k owner-top

  -- Over the new lists, the column of a point with a root is its old column, joined.
  column_old : (p : ℕ) → Root d (suc p) →
      index_of (climb (suc d.k) (new_owners d l r) (suc p)) (new_boundary d l r) ≡ join l r (column d (suc p))
  column_old p ρ =
      ap (λ (q : ℕ). index_of q (new_boundary d l r)) (climb_next p ρ) ∙
      goal_index ρ.z ρ.placed (inside l r d.boundary (suc ρ.z)) (within_of l r (index_of (suc ρ.z) d.boundary)) ∙
      ap (λ (q : ℕ). join l r (index_of q d.boundary)) (sym ρ.up)

-- ---- the two fields of `Adds`

module _ (d : Drawing) (es : List Entry) (l r : ℕ) (s : Sound d) (q : IsRun d es l r) where
  -- A column of the new drawing, read through the three lists.
  column_next : (p : ℕ) → column (next d es l r) p ≡ index_of (climb (suc d.k) (new_owners d l r) p) (new_boundary d l r)
  unfolding next
  column_next p = refl

  -- The column of an old point is the joined one.
  pub col' : (p : ℕ) → p < (net_of d).k → (net_of (next d es l r)).col p ≡ join l r ((net_of d).col p)
  col' p h = column_next (suc p) ∙ column_old d l r s.sized s.rooted q.lr q.rm p (s.rooted.root p h)

  -- The new point's column is l + 1.
  pub col_new : (net_of (next d es l r)).col (net_of d).k ≡ suc l
  col_new =
      column_next (suc d.k) ∙
      ap (λ (p : ℕ). index_of p (new_boundary d l r)) (climb_new d l r s.sized s.rooted q.lr q.rm) ∙
      new_index d l r s.sized s.rooted q.lr q.rm
