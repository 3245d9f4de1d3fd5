-- Points that stand over runs of the boundary, one after another (`Stands`): their plain entries (that they are drawn, each step an accepted call, is in proofs/).
use Rattle.std.specs.Prelude.{ℕ, ◌≡◌, refl, List, [], ◌∷◌, map}
use Rattle.std.proofs.Common.{ap}
use Rattle.rules.specs.declared.Entry.{Entry}
use Rattle.rules.specs.Adding.{points_of}
use Rattle.planar_rules.specs.PlanarCode.{plain}

-- plain entries
abbrev pub plains : List ℕ → List Entry
plains ps = map plain ps

-- name the points that they were made of
pub points-plain : (ps : List ℕ) → points_of (plains ps) ≡ ps
points-plain [] = refl
points-plain (p ∷ ps) = ap (λ (l : List ℕ). p ∷ l) (points-plain ps)

-- the entries of points 2 and 3
abbrev pub second : List Entry
second = plains (1 ∷ [])

abbrev pub third : List Entry
third = plains (1 ∷ 2 ∷ [])
