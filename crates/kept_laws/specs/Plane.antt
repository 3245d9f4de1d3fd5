-- The product of two 16-bit numbers, and the test of a signed 64-bit number against 0.
use Rattle.std.specs.Prelude.{ℕ, suc, ◌-◌, ◌*◌, ◌^◌, ◌≤◌, ◌<◌, ◌≡◌, refl, ℤ, pos, negsuc, eqb}
use Rattle.std.proofs.Common.{arith, ne_eqb}
use native.Mathlib.Nat.{mul-le-mul}
use mir.Syntax.{w16, w64}
use mir.Val.{of_z, Fits, SFits}
use Rattle.plane.specs.Turning.{at_zero}

-- the product of two 16-bit numbers
pub product : {a b : ℕ} → Fits w16 a → Fits w16 b → a * b < 4294967296
product {a} {b} f g =
    let h : a ≤ 65535 = omega arith in
    let k : b ≤ 65535 = omega arith in
    omega (arith, mul-le-mul h k)

-- a difference is 0 exactly if its 64 bits are
pub at_zero_lem : (o : ℤ) → SFits w64 o → eqb (of_z w64 o) 0 ≡ at_zero o
at_zero_lem (pos n) h = refl
at_zero_lem (negsuc n) h = ne_eqb (2 ^ 64 - suc n) 0 (λ e. omega arith)
