-- A boundary whose x - y and x + y grow between neighbours: they grow by at least the distance in the list.
use Rattle.std.specs.Prelude.{ℕ, zero, suc, pred, ◌+◌, ◌<◌, ◌≤◌}
use Rattle.std.proofs.Common.{arith, not-suc-le-zero}
use Rattle.rules.specs.declared.Place.{Place}
use Rattle.plane.specs.Apart.{Fun, up, dn, Lt}

pub rise : (f : Fun) (g : ℕ → Place) (m : ℕ) → ((i : ℕ) → suc i < m → Lt f (g i) (g (suc i))) → (i j : ℕ) → i ≤ j → j < m →
    up f (g i) + dn f (g j) + j ≤ up f (g j) + dn f (g i) + i
rise f g m h zero zero l k = omega arith
rise f g m h zero (suc j) l k = omega (arith, rise f g m h zero j (omega arith) (omega arith), h j k)
rise f g m h (suc i) zero l k = absurd (not-suc-le-zero l)
rise f g m h (suc i) (suc j) l k =
    omega (arith, rise f (λ a. g (suc a)) (pred m) (λ a b. h (suc a) (omega arith)) i j (omega arith) (omega arith))
