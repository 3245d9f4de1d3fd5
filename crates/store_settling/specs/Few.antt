-- Different numbers below k are at most k.
use Rattle.std.specs.Prelude.{ℕ, zero, suc, ◌<◌, ◌≤◌, ◌≡◌, refl, ◌≢◌, Bool, true, false, eqb, if◌then◌else◌}
use Rattle.std.proofs.Common.{sym, ◌∙◌, arith, eqb-true}
use Rattle.std.proofs.lemmas.Bool.{eqb-false}

-- n, or v in place of k
abbrev swap : ℕ → ℕ → ℕ → ℕ
swap v k n = if eqb n k then v else n

data Swapped (v k n u : ℕ) : Type 0 where
  hit : n ≡ k → u ≡ v → Swapped v k n u
  miss : n ≢ k → u ≡ n → Swapped v k n u

swapped : (v k n : ℕ) → Swapped v k n (swap v k n)
swapped v k n = go (eqb n k) refl
  where
    go : (b : Bool) → eqb n k ≡ b → Swapped v k n (if b then v else n)
    go true e = hit (eqb-true n k e) refl
    go false e = miss (eqb-false n k e) refl

-- Different numbers f 0, .., f (m - 1) below k are at most k: without the last, which takes the place of k - 1, they are below k - 1.
pub few : (k m : ℕ) (f : ℕ → ℕ) → ((i : ℕ) → i < m → f i < k) → ((i j : ℕ) → i < j → j < m → f i ≢ f j) → m ≤ k
few zero zero f b n = omega arith
few zero (suc m) f b n = absurd (omega (arith, b 0 (omega arith)))
few (suc k) zero f b n = omega arith
few (suc k) (suc m) f b n = omega (arith, few k m (λ i. swap (f m) k (f i)) below differ)
  where
    below : (i : ℕ) → i < m → swap (f m) k (f i) < k
    below i h = go (swapped (f m) k (f i))
      where
        go : Swapped (f m) k (f i) (swap (f m) k (f i)) → swap (f m) k (f i) < k
        go (hit e z) = omega (arith, b m (omega arith), n i m h (omega arith))
        go (miss e z) = omega (arith, b i (omega arith))

    differ : (i j : ℕ) → i < j → j < m → swap (f m) k (f i) ≢ swap (f m) k (f j)
    differ i j h l = go (swapped (f m) k (f i)) (swapped (f m) k (f j))
      where
        go : Swapped (f m) k (f i) (swap (f m) k (f i)) → Swapped (f m) k (f j) (swap (f m) k (f j)) → swap (f m) k (f i) ≢ swap (f m) k (f j)
        go (hit e z) (hit e' z') q = n i j h (omega arith) (e ∙ sym e')
        go (hit e z) (miss e' z') q = n j m l (omega arith) (omega arith)
        go (miss e z) (hit e' z') q = n i m (omega arith) (omega arith) (omega arith)
        go (miss e z) (miss e' z') q = n i j h (omega arith) (omega arith)
