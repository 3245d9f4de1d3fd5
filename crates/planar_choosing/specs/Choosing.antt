-- Which vertex comes off next: the lowest open one.
use Rattle.std.specs.Prelude.{ℕ, ◌+◌, ◌-◌, ◌<◌, ◌≤◌, ◌≡◌, true, ◌&&◌, List, Option, Some, None, length, ltb, if◌then◌else◌}
use Rattle.std.proofs.Common.{sym, ◌∙◌, arith, lt-ltb, le-ltb, ltb-true}
use Rattle.std.proofs.Math.Bool.{and_assoc}
use Rattle.rules.specs.Bools.{both}
use Rattle.rules.specs.Basics.{index_of, lowest}
use Rattle.rules.proofs.Lowest.{lowest-here, lowest-end}
use Rattle.planar_rules.specs.PlanarCode.{Flat, free?, open?, next}
use Rattle.planar_choosing.specs.Rows.{found_index, inside?, found_at}

-- where the vertex stands that comes off next, if there is one
abbrev pub chosen : Flat → List ℕ → Option ℕ
chosen f b = if ltb (next f b) f.n then Some (index_of (next f b) b) else None

-- ---- the vertices that may come off

module _ (f : Flat) (b : List ℕ) (v : ℕ) where
  -- those inside without a chord
  pub open_is : (inside? b v && free? f b (index_of v b)) ≡ open? f b v
  unfolding open?
  open_is = and_assoc (ltb 0 (index_of v b)) (ltb (index_of v b + 1) (length b)) (free? f b (index_of v b))

  -- one that may come off stands somewhere
  pub open_stands : open? f b v ≡ true → index_of v b < length b
  unfolding open?
  open_stands e = omega (arith, ltb-true _ _ (both (ltb (index_of v b + 1) (length b)) _ (both (ltb 0 (index_of v b)) _ e).1).0)

-- the one that comes off next is v, or there is none
module _ (f : Flat) (b : List ℕ) where
  pub chosen_is : (v : ℕ) → v < f.n → open? f b v ≡ true → lowest (open? f b) f.n 0 ≡ lowest (open? f b) (f.n - v) v → found_index b v ≡ chosen f b
  unfolding next
  chosen_is v l e h =
      let q : next f b ≡ v = h ∙ lowest-here (open? f b) f.n v l e in
      found_at b v (open_stands f b v e) ∙ sym (rw (q, lt-ltb v f.n l))

  pub chosen_none : (v : ℕ) → f.n ≤ v → lowest (open? f b) f.n 0 ≡ lowest (open? f b) (f.n - v) v → None ≡ chosen f b
  unfolding next
  chosen_none v l h =
      let q : next f b ≡ v = h ∙ lowest-end (open? f b) f.n v l in
      sym (rw (q, le-ltb v f.n l))
