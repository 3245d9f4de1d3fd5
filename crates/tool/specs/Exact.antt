-- A whole number below 2 ^ 24 as an f32, divided by 8, and back: no error.
use Rattle.std.specs.Prelude.{◌≡◌, ℕ, zero, suc, ◌*◌, ◌^◌, ◌<◌, Bool, true, false, not, List, [], ◌∷◌, length, pos, slice_index_or, Float}
use Rattle.std.proofs.Common.{sym, ap, ◌∙◌, mul-one, mul_assoc, mul_right_comm, mul-pos, le_of_lt, lt_trans, mul-lt-mul_of_pos_right, true≢false, arith, lit<, pow_pos}
use Rattle.std.proofs.Math.Nat.{eq_of_mul-eq-mul_right}
use Rattle.std.specs.Float.{nan, inf, fin, binary32}
use Rattle.std.specs.Float.Ieee.{up, down, div, mul, of_int, neg}
use Rattle.std.specs.Float.Ieee.Fits.{down_pos}
use Rattle.std.specs.Float.Ieee.Exact.{HasValue, round_exact}
use Rattle.std.specs.Float.Ieee.Back.{round_whole}
use Rattle.rules.specs.Moves.{Move as WholeMove, travel, plunge, cut, lift}
use Rattle.tool.specs.Showing.{Shows, over_eight, in_floats}

pub whole : (n : ℕ) → n < 16777216 → HasValue (of_int binary32 (pos n)) false n 1
unfolding of_int
whole n h = round_whole binary32 false n (le_of_lt h)

-- the same number as another fraction
rescale : (x : Float) (s : Bool) (w l num den : ℕ) → 0 < l → num * l ≡ w * den → HasValue x s w l → HasValue x s num den
rescale nan s w l num den p h v = v
rescale (inf t) s w l num den p h v = v
rescale (fin t m e) s w l num den p h v = (
  v.0,
  eq_of_mul-eq-mul_right l p (m * up e * den) (num * down e)
      (mul_right_comm (m * up e) den l
      ∙ ap (λ (x : ℕ). x * den) v.1
      ∙ mul_right_comm w (down e) den
      ∙ ap (λ (x : ℕ). x * down e) (sym h)
      ∙ mul_right_comm num l (down e)),
)

eighth_of : (x : Float) (n : ℕ) → n < 16777216 → HasValue x false n 1 → HasValue (div binary32 x (fin false 1 (pos 3))) false n 8
unfolding div
eighth_of nan n h v = absurd v
eighth_of (inf t) n h v = absurd v
eighth_of (fin true m e) n h v = absurd (true≢false v.0)
eighth_of (fin false m e) n h v =
    let w = m * up e * 1 in
    let d = 8 * down e in
    let dp : 0 < d = mul-pos (lit< tt) (down_pos e) in
    rescale (div binary32 (fin false m e) (fin false 1 (pos 3))) false w d n 8 dp
    (sym (mul_assoc n 8 (down e)) ∙ mul_right_comm n 8 (down e) ∙ ap (λ (z : ℕ). z * 8) (sym v.1))
    (round_exact binary32 false w d n 146 dp h (lt_trans (mul-lt-mul_of_pos_right h (pow_pos 146)) (lit< tt))
    (ap (λ (z : ℕ). z * 2 ^ 149) v.1
    ∙ mul_right_comm n (down e) (2 ^ 149)
    ∙ ap (λ (z : ℕ). z * down e) (sym (mul_assoc n (2 ^ 146) 8))
    ∙ mul_assoc (n * 2 ^ 146) 8 (down e)))

pub exact : (n : ℕ) → n < 16777216 → HasValue (over_eight n) false n 8
unfolding over_eight
exact n h = eighth_of (of_int binary32 (pos n)) n h (whole n h)

-- and back: n eighths times 8
pub eight_times : (x : Float) (n : ℕ) → n < 16777216 → HasValue x false n 8 → HasValue (mul binary32 x (fin false 1 (pos 3))) false n 1
unfolding mul
eight_times nan n h v = absurd v
eight_times (inf t) n h v = absurd v
eight_times (fin true m e) n h v = absurd (true≢false v.0)
eight_times (fin false m e) n h v =
    let w = m * up e * 8 in
    let d = down e * 1 in
    let dp : 0 < d = mul-pos (down_pos e) (lit< tt) in
    let is : w ≡ n * d = v.1 ∙ ap (λ (z : ℕ). n * z) (sym (mul-one (down e))) in
    rescale (mul binary32 (fin false m e) (fin false 1 (pos 3))) false w d n 1 dp
    (sym is ∙ sym (mul-one w))
    (round_exact binary32 false w d n 149 dp h (lt_trans (mul-lt-mul_of_pos_right h (pow_pos 149)) (lit< tt)) (ap (λ (z : ℕ). z * 2 ^ 149) is ∙ mul_right_comm n d (2 ^ 149)))

pub negated : (x : Float) (s : Bool) (a c : ℕ) → HasValue x s a c → HasValue (neg x) (not s) a c
unfolding neg
negated nan s a c v = v
negated (inf t) s a c v = v
negated (fin t m e) s a c v = (ap not v.0, v.1)

-- every whole number of a move is below 2 ^ 24
abbrev pub Small : WholeMove → Type 0
Small (travel a b) = (a < 16777216) × (b < 16777216)
Small (plunge d) = d < 16777216
Small (cut a b) = (a < 16777216) × (b < 16777216)
Small (lift c) = c < 16777216

-- so is every one of several moves
abbrev pub AllSmall : List WholeMove → Type 0
AllSmall [] = Unit {0}
AllSmall (m ∷ ms) = Small m × AllSmall ms

pub small_at : (ms : List WholeMove) (i : ℕ) → i < length ms → AllSmall ms → Small (slice_index_or ms i (lift 0))
small_at [] i h s = absurd (omega arith)
small_at (m ∷ ms) zero h s = s.0
small_at (m ∷ ms) (suc i) h s = small_at ms i (omega arith) s.1

-- such a move has no error
pub shows : (m : WholeMove) → Small m → Shows (in_floats m) m
shows (travel a b) h = (exact a h.0, exact b h.1)
shows (plunge d) h = negated (over_eight d) false d 8 (exact d h)
shows (cut a b) h = (exact a h.0, exact b h.1)
shows (lift c) h = exact c h
