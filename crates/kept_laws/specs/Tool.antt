-- The test of an f32 against a whole number, the range of a truncating cast, and the check of three numbers.
use Rattle.std.proofs.Common.{◌≡◌, ℕ, zero, suc, ◌+◌, ◌*◌, ◌^◌, ◌<◌, ◌≤◌, true, false, ◌&&◌, ◌-◌, ◌/◌, min, T, leb, pos, sym, ◌∙◌, subst, ⊎_elim, true≢false, lt_trans, mul-lt-mul_of_pos_right, arith, lit<, lt-ltb, le-leb}
use Rattle.std.proofs.Math.Bool.{and-true}
use Rattle.std.specs.Prelude.{Float, if◌then◌else◌, Some, None}
use Rattle.std.specs.Float.{nan, inf, fin, binary32}
use Rattle.std.specs.Float.Ieee.{up, down, eq, lt, of_int, to_unsigned}
use Rattle.std.specs.Float.Ieee.Fits.{down_pos}
use Rattle.std.specs.Float.Ieee.Exact.{HasValue}
use Rattle.rules.specs.Basics.{between}
use Rattle.tool.specs.declared.Tool.{Tool}
use Rattle.tool.specs.Checking.{whole_number, WholePart, checked_of}
use Rattle.tool.specs.Laws.{quotient, is_number, number_is, at_most}
use Rattle.tool.specs.Exact.{whole}
use Rattle.tool.proofs.Wholes.{equal_has, has_equal}

-- a float of the value k lies in the range of a truncating cast, which gives k
pub in_cast : (x : Float) (k : ℕ) → k < 16777216 → HasValue x false k 1 → (lt (fin true 1 (pos 0)) x ≡ true) × (lt x (fin false 1 (pos 64)) ≡ true) × (to_unsigned 64 x ≡ k)
unfolding lt to_unsigned
in_cast nan k h v = absurd v
in_cast (inf t) k h v = absurd v
in_cast (fin true m d) k h v = absurd (true≢false v.0)
in_cast (fin false m d) k h v = (
  lt-ltb 0 (1 * down d + m * up d * 1) (omega (arith, down_pos d)),
  lt-ltb (m * up d * 1) (2 ^ 64 * down d) (subst (λ (z : ℕ). z < 2 ^ 64 * down d) (sym v.1) (mul-lt-mul_of_pos_right (lt_trans h (lit< tt)) (down_pos d))),
  go k (omega (arith, quotient m d k v.1)) (lt_trans h (lit< tt)),
)
  where
    n : ℕ
    n = m * up d / down d

    go : (k : ℕ) → n ≡ k → k < 2 ^ 64 → min n (2 ^ 64 - 1) ≡ k
    go k e l = omega arith

-- a float that is none of the numbers
pub no_number : (most : ℕ) (x : Float) → ((k : ℕ) → 1 ≤ k → k ≤ most → HasValue x false k 1 → ⊥) → 0 ≡ whole_number most x
no_number most x none = ⊎_elim (λ e. sym e) (λ v. absurd (none (whole_number most x) v.0 v.1 v.2)) (number_is most x)

-- a float that equals its whole part
pub number : (most : ℕ) (x : Float) (n : ℕ) → most ≤ 80 → WholePart x n → n ≤ most → eq x (of_int binary32 (pos n)) ≡ true → n ≡ whole_number most x
number most x zero b part u q = no_number most x (λ k l h v. let e = part k (omega arith) v in omega arith)
number most x (suc n) b part u q =
    sym (is_number most x (suc n) (omega arith) u (equal_has x (of_int binary32 (pos (suc n))) (suc n) (omega arith) (whole (suc n) (omega arith)) (subst T (sym q) tt)))

-- and one that doesn't, or whose whole part is out of range
pub other : (most : ℕ) (x : Float) (n : ℕ) → most ≤ 80 → WholePart x n → (n ≤ most → eq x (of_int binary32 (pos n)) ≡ false) → 0 ≡ whole_number most x
other most x n b part q =
    no_number most x (λ k l h v.
    let e : n ≡ k = part k (omega arith) v in
    true≢false (sym (has_equal x (of_int binary32 (pos k)) k (whole k (omega arith)) v) ∙ rw e at (q (omega arith))))

-- the check tests only for 0
counts : (most : ℕ) (x : Float) → between 1 most (whole_number most x) ≡ leb 1 (whole_number most x)
counts most x = rw (le-leb (whole_number most x) most (at_most most x)) (and-true (leb 1 (whole_number most x)))

-- what the check says of three numbers
abbrev pub Judged : Tool → ℕ → ℕ → ℕ → Type 0
Judged t p d c = checked_of t ≡ (if leb 1 p && (leb 1 d && leb 1 c) then Some (record { pitch = p; depth = d; clearance = c }) else None)

pub checked_is : (t : Tool) {p d c : ℕ} → p ≡ whole_number 80 t.pitch → d ≡ whole_number 40 t.depth → c ≡ whole_number 80 t.clearance → Judged t p d c
unfolding checked_of
checked_is t hp hd hc = simp (hp, hd, hc, counts)
