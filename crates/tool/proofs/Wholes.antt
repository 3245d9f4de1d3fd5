-- The test of an f32 against a whole number, a truncating cast, and the tool that three numbers are.
use Rattle.std.proofs.Common.{◌≡◌, ℕ, ◌*◌, ◌^◌, ◌<◌, ◌≤◌, Bool, true, false, ◌||◌, ◌-◌, ◌/◌, min, T, eqb, leb, pos, sym, refl, ap, ◌∙◌, subst, ⊎_elim, true≢false, lt_trans, lt_irrefl, mul-pos, arith, lit<, eqb→eq, eq-eqb, le-leb}
use Rattle.std.proofs.Math.Nat.{eq_of_mul-eq-mul_right}
use Rattle.std.proofs.Math.Bool.{beq, and-true, and-false}
use Rattle.std.specs.Prelude.{Float, if◌then◌else◌, Some, None}
use Rattle.std.specs.Float.{nan, inf, fin, binary32}
use Rattle.std.specs.Float.Ieee.{up, down, eq, of_int, to_unsigned}
use Rattle.std.specs.Float.Ieee.Fits.{down_pos, and_l, and_r}
use Rattle.std.specs.Float.Ieee.Exact.{HasValue}
use Rattle.rules.specs.Basics.{between}
use Rattle.tool.specs.declared.Tool.{Tool}
use Rattle.tool.specs.Checking.{whole_number, number_in, WholePart, checked_of}
use Rattle.tool.specs.Laws.{quotient, is_number, number_is, at_most}
use Rattle.tool.specs.Exact.{whole}

-- equal signs, or both zero
same_sign : (s : Bool) (a : ℕ) → 0 < a → T (beq s false || eqb a 0) → s ≡ false
same_sign false a p q = refl
same_sign true a p q = absurd (lt_irrefl 0 (subst (λ (z : ℕ). 0 < z) (eqb→eq a 0 q) p))

-- what compares equal to a float of the value k has the value k, and the other way
pub equal_has : (x y : Float) (k : ℕ) → 0 < k → HasValue y false k 1 → T (eq x y) → HasValue x false k 1
unfolding eq
equal_has nan y k p v q = absurd q
equal_has (inf s) nan k p v q = absurd v
equal_has (inf s) (inf t) k p v q = absurd v
equal_has (inf s) (fin t n d) k p v q = absurd q
equal_has (fin s m e) nan k p v q = absurd v
equal_has (fin s m e) (inf t) k p v q = absurd v
equal_has (fin s m e) (fin true n d) k p v q = absurd (true≢false v.0)
equal_has (fin s m e) (fin false n d) k p v q =
    let a = m * up e * down d in
    let b = n * up d * down e in
    let same : a ≡ b = eqb→eq a b (and_l (eqb a b) (beq s false || eqb a 0) q) in
    let is : a ≡ k * down e * down d = omega (arith, ap (λ (z : ℕ). z * down e) v.1) in (
      same_sign s a (subst (λ (z : ℕ). 0 < z) (sym is) (mul-pos (mul-pos p (down_pos e)) (down_pos d))) (and_r (eqb a b) (beq s false || eqb a 0) q),
      eq_of_mul-eq-mul_right (down d) (down_pos d) (m * up e * 1) (k * down e) (omega arith),
    )

pub has_equal : (x y : Float) (k : ℕ) → HasValue y false k 1 → HasValue x false k 1 → eq x y ≡ true
unfolding eq
has_equal nan y k v w = absurd w
has_equal (inf s) y k v w = absurd w
has_equal (fin s m e) nan k v w = absurd v
has_equal (fin s m e) (inf t) k v w = absurd v
has_equal (fin true m e) (fin t n d) k v w = absurd (true≢false w.0)
has_equal (fin false m e) (fin true n d) k v w = absurd (true≢false v.0)
has_equal (fin false m e) (fin false n d) k v w =
    simp (eq-eqb (m * up e * down d) (n * up d * down e) (omega (arith, ap (λ (z : ℕ). z * down e) v.1, ap (λ (z : ℕ). z * down d) w.1)))

-- a truncating cast of a float of the value k gives k
pub cast_is : (x : Float) (k : ℕ) → k < 16777216 → HasValue x false k 1 → to_unsigned 64 x ≡ k
unfolding to_unsigned
cast_is nan k h v = absurd v
cast_is (inf t) k h v = absurd v
cast_is (fin true m d) k h v = absurd (true≢false v.0)
cast_is (fin false m d) k h v = go k (omega (arith, quotient m d k v.1)) (lt_trans h (lit< tt))
  where
    n : ℕ
    n = m * up d / down d

    go : (k : ℕ) → n ≡ k → k < 2 ^ 64 → min n (2 ^ 64 - 1) ≡ k
    go k e l = omega arith

-- a float that equals its whole part, from 1 to most, is that number
pub number : (most : ℕ) (x : Float) (n : ℕ) → most ≤ 80 → 1 ≤ n → n ≤ most → eq x (of_int binary32 (pos n)) ≡ true → Some n ≡ number_in most x
number most x n b l u q =
    let is : whole_number most x ≡ n = is_number most x n l u (equal_has x (of_int binary32 (pos n)) n l (whole n (omega arith)) (subst T (sym q) tt)) in
    simp (is, le-leb 1 n l)

-- and one that doesn't, or whose whole part is out of range, is none
pub no_number : (most : ℕ) (x : Float) (n : ℕ) → most ≤ 80 → WholePart x n → (1 ≤ n → n ≤ most → eq x (of_int binary32 (pos n)) ≡ false) → None ≡ number_in most x
no_number most x n b part q = ⊎_elim (λ (e : whole_number most x ≡ 0). simp e) (λ v. absurd (go (whole_number most x) v.0 v.1 v.2)) (number_is most x)
  where
    go : (k : ℕ) → 1 ≤ k → k ≤ most → HasValue x false k 1 → ⊥
    go k l u v =
        let e : n ≡ k = part k (omega arith) v in
        true≢false (sym (has_equal x (of_int binary32 (pos k)) k (whole k (omega arith)) v) ∙ rw e at (q (omega arith) (omega arith)))

-- the check tests only for 0
counts : (most : ℕ) (x : Float) → between 1 most (whole_number most x) ≡ leb 1 (whole_number most x)
counts most x = rw (le-leb (whole_number most x) most (at_most most x)) (and-true (leb 1 (whole_number most x)))

fails : (most : ℕ) (x : Float) → None ≡ number_in most x → between 1 most (whole_number most x) ≡ false
fails most x e = counts most x ∙ go (leb 1 (whole_number most x)) e
  where
    go : (b : Bool) → None ≡ (if b then Some (whole_number most x) else None) → b ≡ false
    go true e = cc
    go false e = refl

holds : (most n : ℕ) (x : Float) → Some n ≡ number_in most x → (between 1 most (whole_number most x) ≡ true) × (whole_number most x ≡ n)
holds most n x e = let g = go (leb 1 (whole_number most x)) e in (counts most x ∙ g.0, g.1)
  where
    go : (b : Bool) → Some n ≡ (if b then Some (whole_number most x) else None) → (b ≡ true) × (whole_number most x ≡ n)
    go true e = (refl, cc)
    go false e = cc

-- no tool without each of its numbers, and the tool that three numbers are
pub no_pitch : (t : Tool) → None ≡ number_in 80 t.pitch → checked_of t ≡ None
unfolding checked_of
no_pitch t e = simp (fails 80 t.pitch e)

pub no_depth : (t : Tool) → None ≡ number_in 40 t.depth → checked_of t ≡ None
unfolding checked_of
no_depth t e = simp (fails 40 t.depth e, and-false)

pub no_clearance : (t : Tool) → None ≡ number_in 80 t.clearance → checked_of t ≡ None
unfolding checked_of
no_clearance t e = simp (fails 80 t.clearance e, and-false)

pub three_numbers : (t : Tool) {p d c : ℕ} → Some p ≡ number_in 80 t.pitch → Some d ≡ number_in 40 t.depth → Some c ≡ number_in 80 t.clearance → checked_of t ≡ Some (record { pitch = p; depth = d; clearance = c })
unfolding checked_of
three_numbers t {p} {d} {c} hp hd hc =
    let ip = holds 80 p t.pitch hp in
    let id = holds 40 d t.depth hd in
    let ic = holds 80 c t.clearance hc in
    simp (ip.0, id.0, ic.0) (simp (ip.1, id.1, ic.1))

pub ruleset checked = (no_pitch, no_depth, no_clearance, three_numbers)
