-- Laws of `lowest`: what it gives, and that nothing else is it; how a loop finds it; tests that say the same.
use Rattle.std.specs.Prelude.{ℕ, zero, suc, ◌+◌, ◌-◌, ◌<◌, ◌≤◌, ◌≡◌, refl, Bool, true, false}
use Rattle.std.proofs.Common.{ap, sym, ◌∙◌, true≢false, arith, add-one}
use Rattle.std.proofs.Math.Decide.{ℕ_discrete, dec_lt}
use Rattle.rules.specs.Basics.{lowest}

-- r is the lowest of x, x + 1, .., x + k - 1 that passes, or x + k
pub record IsLowest (t : ℕ → Bool) (k x r : ℕ) : Type 0 where
  pub from : x ≤ r
  pub to : r ≤ x + k
  pub below : (z : ℕ) → x ≤ z → z < r → t z ≡ false
  pub passes : r < x + k → t r ≡ true

-- `lowest` gives it.
pub is_lowest : (t : ℕ → Bool) (k x : ℕ) → IsLowest t k x (lowest t k x)
unfolding lowest
is_lowest t zero x =
    record { from = omega arith; to = omega arith; below = λ z a b. absurd (omega arith); passes = λ h. absurd (omega arith) }
is_lowest t (suc k) x = go (t x) refl (is_lowest t k (suc x))
  where
    go : (b : Bool) → t x ≡ b → IsLowest t k (suc x) (lowest t k (suc x)) → IsLowest t (suc k) x (lowest t (suc k) x)
    go true e r =
        rw e (record { from = omega arith; to = omega arith; below = λ z a b. absurd (omega arith); passes = λ h. e })
    go false e r =
        rw e
        (record {
          from = omega (arith, r.from);
          to = omega (arith, r.to);
          below = λ z a b. elim (ℕ_discrete z x) [ yes i ↦ ap t i ∙ e | no n ↦ r.below z (omega (arith, n)) b ];
          passes = λ h. r.passes (omega arith);
        })

-- Nothing else is it.
pub lowest_only : (t : ℕ → Bool) (k x r : ℕ) → IsLowest t k x r → lowest t k x ≡ r
lowest_only t k x r i =
    let j = is_lowest t k x in
    elim (dec_lt r (lowest t k x)) [
      | yes l ↦ absurd (true≢false (sym (i.passes (omega (arith, j.to))) ∙ j.below r i.from l))
      | no n ↦
          elim (dec_lt (lowest t k x) r) [
            | yes l ↦ absurd (true≢false (sym (j.passes (omega (arith, i.to))) ∙ i.below _ j.from l))
            | no o ↦ omega (arith, n, o)
          ]
    ]

-- One that passes is at least as high.
pub lowest_most : (t : ℕ → Bool) (k x y : ℕ) → x ≤ y → t y ≡ true → lowest t k x ≤ y
lowest_most t k x y a h =
    elim (dec_lt y (lowest t k x)) [
      | yes l ↦ absurd (true≢false (sym h ∙ (is_lowest t k x).below y a l))
      | no n ↦ omega (arith, n)
    ]

-- ---- a loop from v up to n: it is v, it is above v, or there is none

pub lowest-here : (t : ℕ → Bool) (n v : ℕ) → v < n → t v ≡ true → lowest t (n - v) v ≡ v
unfolding lowest
lowest-here t n v l e = let q : n - v ≡ suc (n - v - 1) = omega arith in rw (q, e)

pub lowest_on : (t : ℕ → Bool) (n v : ℕ) → v < n → t v ≡ false → lowest t (n - v) v ≡ lowest t (n - (v + 1)) (v + 1)
unfolding lowest
lowest_on t n v l e = let q : n - v ≡ suc (n - (v + 1)) = omega arith in rw (q, e, add-one v)

pub lowest-end : (t : ℕ → Bool) (n v : ℕ) → n ≤ v → lowest t (n - v) v ≡ v
unfolding lowest
lowest-end t n v l = let q : n - v ≡ 0 = omega arith in rw q

-- ---- tests that say the same

pub lowest_same : (t u : ℕ → Bool) (k x : ℕ) → ((v : ℕ) → v < x + k → t v ≡ u v) → lowest t k x ≡ lowest u k x
unfolding lowest
lowest_same t u zero x h = refl
lowest_same t u (suc k) x h = rw (h x (omega arith), lowest_same t u k (suc x) (λ v l. h v (omega arith)))
