-- What the arrays say at placed points, and what the entries of a call say of its run.
use Rattle.std.specs.Prelude.{ℕ, zero, suc, pred, ◌+◌, ◌-◌, ◌<◌, ◌≤◌, ◌≡◌, refl, List, [], ◌∷◌, map, length, get_or, take}
use Rattle.std.proofs.Common.{sym, ap, ◌∙◌, arith}
use Rattle.std.proofs.lemmas.List.{length-map}
use Rattle.rules.specs.Points.{Drawing, x_of, y_of, dl_of, dr_of, owner_of, w}
use Rattle.rules.specs.Readings.{entry_of}
use Rattle.rules.proofs.Lengths.{first_at}
use Rattle.rules.specs.Adding.{points_of}
use Rattle.store_links.specs.declared.Counts.{Counts}
use Rattle.store_links.specs.Arrays.{Arrays, Stores, at_point}
use Rattle.store_links.specs.Placing.{entry_point, way}
use Rattle.promise.specs.Sound.{Sound}
use Rattle.promise.specs.Next.{IsRun}

-- ---- one array

-- An array whose first k numbers are a list reads like the list at the points 1, .., k.
front : (k : ℕ) (l l' : List ℕ) → take k l ≡ l' → (p : ℕ) → 0 < p → p ≤ k → at_point l p ≡ get_or l' (pred p) 0
front k l l' e p low high = first_at l l' k (pred p) e (omega arith)

-- the points of a call's entries, as the rules read them
abbrev pub run_of : List ℕ → List ℕ
run_of es = points_of (map entry_of es)

-- The rules and the code read the same points.
pub entry_point_lem : (es : List ℕ) (i : ℕ) → get_or (run_of es) i 0 ≡ entry_point es i
entry_point_lem [] i = refl
entry_point_lem (e ∷ es) zero = refl
entry_point_lem (e ∷ es) (suc i) = entry_point_lem es i

module _ {d : Drawing} {a : Arrays} {c : Counts} (t : Stores d a c) where
  -- The owner of a placed point.
  pub owner_at : (p : ℕ) → 0 < p → p ≤ d.k → at_point a.owner p ≡ owner_of d p
  owner_at = front d.k a.owner d.owners t.owner

  -- The height of a placed point.
  pub y_at : (p : ℕ) → 0 < p → p ≤ d.k → at_point a.ys p ≡ y_of d p
  y_at = front d.k a.ys d.ys t.ys

  -- dl of a placed point.
  pub dl_at : (p : ℕ) → 0 < p → p ≤ d.k → at_point a.dls p ≡ dl_of d p
  dl_at = front d.k a.dls d.dls t.dls

  -- dr of a placed point.
  pub dr_at : (p : ℕ) → 0 < p → p ≤ d.k → at_point a.drs p ≡ dr_of d p
  dr_at = front d.k a.drs d.drs t.drs

-- ---- a run

module _ {d : Drawing} (es : List ℕ) {l r : ℕ} (q : IsRun d (map entry_of es) l r) where
  -- The run has r - l + 1 entries.
  pub run-size : l + length es ≡ suc r
  run-size = omega (arith, q.size, length-map es entry_of)

  -- Entry i is boundary point l + i.
  pub entry_is : (i : ℕ) → l + i ≤ r → entry_point es i ≡ w d (l + i)
  entry_is i h = sym (entry_point_lem es i) ∙ q.point i h

module _ {d : Drawing} (es : List ℕ) {l r : ℕ} (s : Sound d) (q : IsRun d (map entry_of es) l r) where
  -- A point of the run is placed.
  pub run-low : (i : ℕ) → i ≤ r → (0 < w d i) × (w d i ≤ d.k)
  run-low i h = s.rooted.low i (omega (arith, q.rm))

  -- An array x that says f at every placed point says f at the entries.
  module _ (x : List ℕ) (f : ℕ → ℕ) (says : (p : ℕ) → 0 < p → p ≤ d.k → at_point x p ≡ f p) where
    pub entry_says : (i : ℕ) → l + i ≤ r → at_point x (entry_point es i) ≡ f (w d (l + i))
    entry_says i h = let b = run-low (l + i) h in ap (at_point x) (entry_is es q i h) ∙ says (w d (l + i)) b.0 b.1

    pub first_says : at_point x (entry_point es 0) ≡ f (w d l)
    first_says = let e : l + 0 ≡ l = omega arith in entry_says 0 (omega (arith, q.lr)) ∙ ap (λ (i : ℕ). f (w d i)) e

    pub last_says : at_point x (entry_point es (length es - 1)) ≡ f (w d r)
    last_says = let e : l + (length es - 1) ≡ r = omega (arith, run-size es q, q.lr) in entry_says (length es - 1) (omega arith) ∙ ap (λ (i : ℕ). f (w d i)) e

module _ {d : Drawing} {a : Arrays} {c : Counts} (es : List ℕ) {l r : ℕ} (t : Stores d a c) (s : Sound d) (q : IsRun d (map entry_of es) l r) where
  -- Entry i lies `way` to the right of wl.
  pub way_is : (i : ℕ) → l + i ≤ r → x_of d (w d l) + way a.gap es i ≡ x_of d (w d (l + i))
  way_is zero h = let e : l + 0 ≡ l = omega arith in omega (arith, ap (λ (i : ℕ). x_of d (w d i)) e)
  way_is (suc i) h =
      let e : l + suc i ≡ suc (l + i) = omega arith in
      omega (
        arith,
        way_is i (omega arith),
        ap (λ (n : ℕ). x_of d (w d n)) e,
        t.step (l + i) (omega (arith, q.rm)),
        ap (at_point a.gap) (entry_is es q (suc i) h ∙ ap (w d) e),
      )

  -- wr lies `way` of the last entry to the right of wl.
  pub far_is : x_of d (w d l) + way a.gap es (length es - 1) ≡ x_of d (w d r)
  far_is =
      let e : l + (length es - 1) ≡ r = omega (arith, run-size es q, q.lr) in
      way_is (length es - 1) (omega arith) ∙ ap (λ (i : ℕ). x_of d (w d i)) e
