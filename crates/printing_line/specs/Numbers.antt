-- The kit's decimal digits are those of the rules.
use Rattle.std.specs.Prelude.{ℕ, zero, suc, ◌-◌, ◌/◌, ◌%◌, ◌^◌, ◌≤◌, ◌<◌, ◌≡◌, refl, Bool, true, false, List, [], ◌∷◌, ltb, leb, length}
use Rattle.std.proofs.Common.{ap, ap₂, sym, ◌∙◌, arith, length-append, lt-ltb, ltb-true, ltb-false, leb-true, leb-false}
use Rattle.std.proofs.Math.Nat.{pow-succ', pow-le-pow_right}
use Rattle.io.specs.Digits.{hex_digit_ascii, IsDigitCount}
use Rattle.io.specs.Digits.{last_digits as kitDigits}
use Rattle.rules.specs.Basics.{snoc}
use Rattle.rules.specs.Decimal.{digit, digits}
use Rattle.rules.proofs.Decimal.{digits_one, digits_more}
use Rattle.printing_line.specs.Putting.{most_digits}

-- the last digit
glyph_is : (v : ℕ) → v < 10 → hex_digit_ascii v ≡ digit v
glyph_is v h = rw (lt-ltb v 10 h)

-- k + 1 digits, of which the first isn't 0 where there are more than one
kit_digits : (k v : ℕ) → v < 10 ^ suc k → (0 < k → 10 ^ k ≤ v) → kitDigits 10 (suc k) v ≡ digits v
kit_digits zero v h g =
    let small : v < 10 = h in
    let e : v % 10 ≡ v = omega arith in
    ap (λ (d : ℕ). d ∷ []) (ap hex_digit_ascii e ∙ glyph_is v small) ∙ sym (digits_one v small)
kit_digits (suc k) v h g =
    let p = pow-succ' 10 k in
    let q = pow-succ' 10 (suc k) in
    let low = g (omega arith) in
    ap₂ (λ (l : List ℕ) (d : ℕ). snoc l d) (kit_digits k (v / 10) (omega arith) (λ b. omega arith)) (glyph_is (v % 10) (omega arith)) ∙
    sym (digits_more v (omega arith))

-- THE DIGITS THAT `io::decimal` MAKES
pub decimal_is : (v r : ℕ) (text : List ℕ) → IsDigitCount 10 1 v r → text ≡ kitDigits 10 r v → text ≡ digits v
decimal_is v zero text f e = absurd (omega (arith, f.0))
decimal_is v (suc k) text f e = let less : suc k - 1 ≡ k = omega arith in e ∙ kit_digits k v f.1 (λ b. rw less at (f.2 (omega arith)))

-- a number of 64 bits has at most 20 of them
pub few-digits : (v r : ℕ) → v < 18446744073709551616 → IsDigitCount 10 1 v r → r ≤ most_digits
few-digits v r h f = go (leb r most_digits) refl
  where
    go : (t : Bool) → leb r most_digits ≡ t → r ≤ most_digits
    go true e = leb-true r most_digits e
    go false e =
        let more = leb-false r most_digits e in
        let low = f.2 (omega arith) in
        let p = pow-le-pow_right {n = 10} (omega arith) {i = most_digits} {j = r - 1} (omega arith) in
        absurd (omega (arith, p, low))

-- A number below 10 ^ (k + 1) has at most k + 1 digits.
pub digits_most : (k v : ℕ) → v < 10 ^ suc k → length (digits v) ≤ suc k
digits_most zero v h = rw (digits_one v h) (omega arith)
digits_most (suc k) v h = go (ltb v 10) refl (λ b. digits_most k (v / 10) b)
  where
    go : (t : Bool) → ltb v 10 ≡ t → (v / 10 < 10 ^ suc k → length (digits (v / 10)) ≤ suc k) → length (digits v) ≤ suc (suc k)
    go true e rest = rw (digits_one v (ltb-true v 10 e)) (omega arith)
    go false e rest =
        let p = pow-succ' 10 (suc k) in
        rw (digits_more v (ltb-false v 10 e)) (omega (arith, length-append (digits (v / 10)) (digit (v % 10) ∷ []), rest (omega arith)))
