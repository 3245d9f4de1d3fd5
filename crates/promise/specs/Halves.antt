-- Steps 3 and 4 of both drawings in plain numbers: wl is at (x, y) and wr, before step 3, at (z, t).
use Rattle.std.specs.Prelude.{ℕ, ◌+◌, ◌-◌, ◌/◌, ◌%◌, ◌<◌, ◌≤◌, ◌≡◌, refl, Bool, true, false, eqb, if◌then◌else◌}
use Rattle.std.proofs.Common.{arith, eqb-true}
use Rattle.std.proofs.lemmas.Bool.{eqb-false}
use Rattle.rules.specs.declared.Style.{Style}
use Rattle.rules.specs.declared.Style.TheVariants.{OneBend, Straight}
use Rattle.rules.specs.Styles.{amount, inset, evening}
use Rattle.net.specs.Parity.{steps}

-- A of step 3 for a left end at (x, y)
abbrev pub a_of : Style → ℕ → ℕ → ℕ
a_of τ x y = (x - y) + inset τ

-- B of step 3 for a right end at (z, t)
abbrev pub b_of : Style → ℕ → ℕ → ℕ
b_of τ z t = (z + t) - inset τ

-- An amount of 2 or 1 is 1 or 2.
one_or_two : (b : Bool) → (0 < (if b then 2 else 1)) × ((if b then 2 else 1) ≤ 2)
one_or_two true = omega arith
one_or_two false = omega arith

-- The amount of step 1 or 2 is 1 or 2.
pub amount-range : (τ : Style) (c : ℕ) → (0 < amount τ c) × (amount τ c ≤ 2)
amount-range OneBend c = one_or_two (eqb c 0)
amount-range Straight c = omega arith

-- Step 3 of a one-bend drawing adds the rest of A + B by 2.
odd_rest : (n : ℕ) → evening OneBend n ≡ n % 2
odd_rest n = go (eqb (n % 2) 1) refl
  where
    go : (b : Bool) → eqb (n % 2) 1 ≡ b → (if b then 1 else 0) ≡ n % 2
    go true e = omega (arith, eqb-true (n % 2) 1 e)
    go false e = let k : ¬ (n % 2 ≡ 1) = eqb-false (n % 2) 1 e in omega arith

-- Step 3 adds 1 at most.
pub evening_most : (τ : Style) (n : ℕ) → evening τ n ≤ 1
evening_most OneBend n = omega (arith, odd_rest n)
evening_most Straight n = omega arith

-- A + B is even after step 3: in a one-bend drawing by step 3; in a straight one because x + y is even along the boundary (wr was at v), and the other two steps move wr by 2.
pub even_after : (τ : Style) (x x' y v z z' t c c' i j : ℕ) → x' ≡ x → z ≡ v + (amount τ c + amount τ c') → z' ≡ z + evening τ (a_of τ x y + b_of τ z t) → y ≤ x → inset τ ≤ z + t →
    (x + y + steps τ i) % 2 ≡ 0 → (v + t + steps τ j) % 2 ≡ 0 → (a_of τ x' y + b_of τ z' t) % 2 ≡ 0
even_after OneBend x x' y v z z' t c c' i j left moved right frame some el er = omega (arith, odd_rest (a_of OneBend x y + b_of OneBend z t))
even_after Straight x x' y v z z' t c c' i j left moved right frame some el er = omega arith

-- Where A + B is even and A is at most B, the two halves of step 4 differ by A.
half_diff : (a b : ℕ) → a ≤ b → (a + b) % 2 ≡ 0 → (a + b) / 2 ≡ a + (b - a) / 2
half_diff a b h e = omega arith

-- Where A + B is even and A is at most B, the two halves of step 4 sum to B.
half_sum : (a b : ℕ) → a ≤ b → (a + b) % 2 ≡ 0 → (a + b) / 2 + (b - a) / 2 ≡ b
half_sum a b h e = omega arith

-- wl is at (x, y) and wr at (z, t) where step 4 reads them.
module _ (τ : Style) (x y z t : ℕ) (frame : y ≤ x) (some : inset τ ≤ z + t) (order : a_of τ x y ≤ b_of τ z t) (even : (a_of τ x y + b_of τ z t) % 2 ≡ 0) where
  -- The new point has x - y so much more than wl.
  pub new_diff : (a_of τ x y + b_of τ z t) / 2 + y ≡ x + inset τ + (b_of τ z t - a_of τ x y) / 2
  new_diff = omega (arith, half_diff (a_of τ x y) (b_of τ z t) order even)

  -- The new point has x + y so much less than wr.
  pub new_sum : (a_of τ x y + b_of τ z t) / 2 + (b_of τ z t - a_of τ x y) / 2 + inset τ ≡ z + t
  new_sum = omega (arith, half_sum (a_of τ x y) (b_of τ z t) order even)
