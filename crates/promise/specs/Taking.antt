-- Which calls are accepted on a sound drawing: every run of the boundary, and for point n the whole boundary.
use Rattle.std.specs.Prelude.{ℕ, suc, ◌+◌, ◌<◌, ◌≡◌, refl, List, [], ◌∷◌, length, get_or}
use Rattle.std.proofs.Common.{ap, ◌∙◌, arith}
use Rattle.rules.specs.declared.Entry.{Entry}
use Rattle.rules.specs.Basics.{head_of, index_of}
use Rattle.rules.specs.Refusals.{good}
use Rattle.rules.specs.Points.{Drawing, w, m}
use Rattle.rules.specs.Adding.{l_of, points_of, add_entries}
use Rattle.promise.specs.Sound.{Sound}
use Rattle.promise.specs.Next.{IsRun, next}
use Rattle.promise.specs.Columns.{index_is}
use Rattle.promise.specs.Accepted.{accepts}
use Rattle.promise.specs.Reaching.{run-reached}

-- a run's first entry stands where the run begins
pub first_is : (d : Drawing) (es : List Entry) (l r : ℕ) → Sound d → IsRun d es l r → l_of d (points_of es) ≡ l
first_is d es l r s q =
    let z : l + 0 ≡ l = omega arith in
    ap (λ (p : ℕ). index_of p d.boundary) (head_at (points_of es) ∙ q.point 0 (omega (arith, q.lr)) ∙ ap (w d) z) ∙ index_is s l (omega (arith, q.lr, q.rm))
  where
    head_at : (run : List ℕ) → head_of run ≡ get_or run 0 0
    head_at [] = refl
    head_at (p ∷ run) = refl

-- where there is room, and point n's run is the whole boundary, the run is taken
pub run_taken : (d : Drawing) (es : List Entry) (l r : ℕ) → Sound d → IsRun d es l r → d.k < d.n → (suc d.k ≡ d.n → length es ≡ m d) → add_entries d es ≡ good (next d es l r)
run_taken d es l r s q room whole = accepts d es s.rooted.low room whole l r q (first_is d es l r s q) (run-reached d es l r s q)
