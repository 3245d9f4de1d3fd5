-- A point over a run of the boundary (`Over`), as the rules of adding see it: where the run begins and ends, and the boundary with the new point.
use Rattle.std.specs.Prelude.{ℕ, suc, ◌≡◌, List, [], ◌∷◌, ◌++◌, take, drop}
use Rattle.std.proofs.Common.{◌∙◌, arith}
use Rattle.planar_order.specs.Model.{Over}
use Rattle.planar_order.proofs.Model.{over_whole}
use Rattle.planar_drawn.specs.Runs.{left_at, right_at, old_length, new_length, new_at}

-- point 3 stands over points 1 and 2
pub over_pair : {run new : List ℕ} → Over 3 (1 ∷ 2 ∷ []) run new → (run ≡ 1 ∷ 2 ∷ []) × (new ≡ 1 ∷ 3 ∷ 2 ∷ [])
over_pair o =
    (over_whole o (omega (arith, old_length o, new_length o)), new_at o ∙ between (left_at o) (right_at o) (omega (arith, old_length o)) (omega (arith, old_length o)))
  where
    between : (l r : ℕ) → l ≡ 0 → r ≡ 1 → ◌++◌ {A = ℕ} (take (suc l) (1 ∷ 2 ∷ [])) (3 ∷ drop r (1 ∷ 2 ∷ [])) ≡ 1 ∷ 3 ∷ 2 ∷ []
    between l r e f = rw (e, f)
