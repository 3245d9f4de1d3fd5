-- What the definitions of the check mean, for those who use them.
use Rattle.std.specs.Prelude.{◌≡◌, ℕ, ◌*◌, ◌/◌, ◌%◌, ◌≤◌, Bool, true, false, not, ◌&&◌, ◌⊎◌, [], ◌∷◌, map, ℤ, pos, negsuc, ◌==◌, nat_le, refl, Float, if◌then◌else◌, Some, None}
use Rattle.std.proofs.Common.{sym, ◌∙◌, subst, mul-one, mul-div_cancel, div-add-mod', arith, true≢false, inl, inr, ⊎_elim, le-leb, leb-true, eqb-true}
use Rattle.std.proofs.Math.Nat.{mul-mod_left}
use Rattle.std.specs.Float.{nan, inf, fin}
use Rattle.std.specs.Float.Ieee.{up, down}
use Rattle.std.specs.Float.Ieee.Fits.{down_pos}
use Rattle.std.specs.Float.Ieee.Exact.{HasValue}
use Rattle.rules.specs.Basics.{between}
use Rattle.rules.specs.Bools.{both, in_range}
use Rattle.rules.specs.declared.Refusal.TheVariants.{BadTool}
use Rattle.rules.specs.Refusals.{good, told, refuse_if, ◌>>◌}
use Rattle.rules.specs.Moves.{is_tool}
use Rattle.tool.specs.declared.Tool.{Tool}
use Rattle.tool.specs.declared.Numbers.{Numbers}
use Rattle.tool.specs.Checking.{whole_number, whole_tool, tool_of, numbers_of, checked_of, told_tool, InRange}

-- the quotient of a float of the value k, and its remainder
pub quotient : (m : ℕ) (e : ℤ) (k : ℕ) → m * up e * 1 ≡ k * down e → (m * up e / down e ≡ k) × (m * up e % down e ≡ 0)
quotient m e k v =
    let is : m * up e ≡ k * down e = sym (mul-one (m * up e)) ∙ v in
    (rw is (mul-div_cancel k (down_pos e)), rw is (mul-mod_left k (down e)))

-- a float of the value k, from 1 to most, is the number k
pub is_number : (most : ℕ) (x : Float) (k : ℕ) → 1 ≤ k → k ≤ most → HasValue x false k 1 → whole_number most x ≡ k
unfolding whole_number
is_number most nan k l u v = absurd v
is_number most (inf s) k l u v = absurd v
is_number most (fin true m e) k l u v = absurd (true≢false v.0)
is_number most (fin false m e) k l u v = let c = quotient m e k v.1 in simp (c.0, c.1, le-leb 1 k l, le-leb k most u)

-- no other float is one
pub number_is : (most : ℕ) (x : Float)
    → (whole_number most x ≡ 0) ⊎ ((1 ≤ whole_number most x) × (whole_number most x ≤ most) × HasValue x false (whole_number most x) 1)
unfolding whole_number
number_is most nan = inl refl
number_is most (inf s) = inl refl
number_is most (fin true m e) = inl refl
number_is most (fin false m e) = go (m * up e % down e == 0) (nat_le 1 n) (nat_le n most) (λ t. eqb-true (m * up e % down e) 0 t) (λ t. leb-true 1 n t) (λ t. leb-true n most t)
  where
    n : ℕ
    n = m * up e / down e

    Said : ℕ → Type 0
    Said w = (w ≡ 0) ⊎ ((1 ≤ w) × (w ≤ most) × HasValue (fin false m e) false w 1)

    go : (a b c : Bool) → (a ≡ true → m * up e % down e ≡ 0) → (b ≡ true → 1 ≤ n) → (c ≡ true → n ≤ most) → Said (if a && (b && c) then n else 0)
    go false b c r l u = inl refl
    go true false c r l u = inl refl
    go true true false r l u = inl refl
    go true true true r l u = let z = r refl in inr (l refl, u refl, (refl, omega (arith, div-add-mod' (m * up e) (down e))))

-- NaN, an infinity, -0, 0, a half, minus 1, 81 and 80
pub worked : map (whole_number 80) (nan ∷ inf false ∷ fin true 0 (pos 0) ∷ fin false 0 (pos 0) ∷ fin false 1 (negsuc 0) ∷ fin true 1 (pos 0) ∷ fin false 81 (pos 0) ∷ fin false 5 (pos 4) ∷ [])
    ≡ 0 ∷ 0 ∷ 0 ∷ 0 ∷ 0 ∷ 0 ∷ 0 ∷ 80 ∷ []
unfolding whole_number
worked = refl

-- in range, whatever the float
pub at_most : (most : ℕ) (x : Float) → whole_number most x ≤ most
at_most most x = ⊎_elim (λ e. omega arith) (λ v. v.1) (number_is most x)

-- what the check tells: the tool of the rules is one, and these are its numbers; or it is none
pub good-tool : (t : Tool) (n : Numbers) → checked_of t ≡ Some n → (is_tool (whole_tool t) ≡ true) × (tool_of n ≡ whole_tool t) × InRange n
unfolding checked_of
good-tool t n h = go (is_tool (whole_tool t)) refl h
  where
    go : (b : Bool) → is_tool (whole_tool t) ≡ b → (if b then Some (numbers_of (whole_tool t)) else None) ≡ Some n → (is_tool (whole_tool t) ≡ true) × (tool_of n ≡ whole_tool t) × InRange n
    go true i e =
        let same : numbers_of (whole_tool t) ≡ n = cc in
        (i, rw (sym same), subst InRange same (record { some = (in_range 1 80 (whole_number 80 t.pitch) (both (between 1 80 (whole_number 80 t.pitch)) (between 1 40 (whole_number 40 t.depth) && between 1 80 (whole_number 80 t.clearance)) i).0).0; pitch = at_most 80 t.pitch; depth = at_most 40 t.depth; clearance = at_most 80 t.clearance }))
    go false i e = absurd (let z : ◌≡◌ {A = ℕ} 0 1 = cc in omega arith)

pub bad_tool : (t : Tool) → checked_of t ≡ None → is_tool (whole_tool t) ≡ false
unfolding checked_of
bad_tool t h = go (is_tool (whole_tool t)) h
  where
    go : (b : Bool) → (if b then Some (numbers_of (whole_tool t)) else None) ≡ None → b ≡ false
    go true e = absurd (let z : ◌≡◌ {A = ℕ} 0 1 = cc in omega arith)
    go false e = refl

-- it tells the tool of the rules, or 12
pub tool-told : (t : Tool) → told_tool (checked_of t) ≡ told (refuse_if (not (is_tool (whole_tool t))) BadTool 0 >> good (whole_tool t))
unfolding checked_of
tool-told t = go (is_tool (whole_tool t))
  where
    go : (b : Bool) → told_tool (if b then Some (numbers_of (whole_tool t)) else None) ≡ told (refuse_if (not b) BadTool 0 >> good (whole_tool t))
    go true = refl
    go false = refl
