-- One turn of a loop, on lists.
use Rattle.std.specs.Prelude.{ℕ, zero, suc, ◌+◌, ◌<◌, max, ◌≡◌, List, [], ◌∷◌, length, get_or, take}
use Rattle.std.proofs.Common.{arith, add-one}
use Rattle.rules.specs.DrawingFile.{highest}

highest-suc : (ys : List ℕ) (i : ℕ) → i < length ys → highest (take (suc i) ys) ≡ max (highest (take i ys)) (get_or ys i 0)
highest-suc [] i h = absurd (omega arith)
highest-suc (y ∷ ys) zero h = omega arith
highest-suc (y ∷ ys) (suc i) h = omega (arith, highest-suc ys i (omega arith))

-- the largest of one number more
pub highest_more : (ys : List ℕ) (i : ℕ) → i < length ys → highest (take (i + 1) ys) ≡ max (highest (take i ys)) (get_or ys i 0)
highest_more ys i h = rw add-one (highest-suc ys i h)
