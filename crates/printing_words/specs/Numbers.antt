-- A word's number, digit by digit, and as an f32 of a tool.
use Rattle.std.specs.Prelude.{ℕ, ◌+◌, ◌-◌, ◌*◌, ◌≤◌, ◌<◌, ◌≡◌, refl, Bool, true, false, ◌&&◌, Option, Some, None, List, [], ◌∷◌, leb, length, Float, if◌then◌else◌}
use Rattle.std.proofs.Common.{ap, sym, ◌∙◌, true≢false, arith}
use Rattle.std.proofs.Math.Bool.{and-false}
use Rattle.std.proofs.lemmas.Bool.{lt-leb}
use Rattle.std.specs.Float.{nan, inf, fin}
use Rattle.std.specs.Float.Ieee.Exact.{HasValue}
use Rattle.rules.specs.Basics.{between, all_of}
use Rattle.rules.specs.Bools.{both}
use Rattle.rules.specs.Decimal.{is_digit, value_from}
use Rattle.rules.specs.MoveLines.{word_number}
use Rattle.rules.specs.Points.{Drawing as Plan}
use Rattle.rules.specs.Moves.{Tool as WholeTool, is_tool, given_moves}
use Rattle.tool.specs.declared.Tool.{Tool}
use Rattle.tool.specs.Checking.{whole_number, whole_tool}
use Rattle.tool.specs.Laws.{quotient}

-- ---- digit by digit

-- the number that digits behind v make; none if one of them isn't a digit
abbrev pub digits_from : ℕ → List ℕ → Option ℕ
digits_from v [] = Some v
digits_from v (d ∷ ds) = if is_digit d then digits_from (10 * v + (d - 48)) ds else None

-- the number of a word of one to eight digits
abbrev pub word_value : List ℕ → Option ℕ
word_value w = if between 1 8 (length w) then digits_from 0 w else None

-- it, or 0
abbrev pub or_zero : Option ℕ → ℕ
or_zero (Some v) = v
or_zero None = 0

from_digits : (v : ℕ) (w : List ℕ) → or_zero (digits_from v w) ≡ (if all_of is_digit w then value_from v w else 0)
from_digits v [] = refl
from_digits v (d ∷ ds) = go (is_digit d) (from_digits (10 * v + (d - 48)) ds)
  where
    go : (t : Bool) → or_zero (digits_from (10 * v + (d - 48)) ds) ≡ (if all_of is_digit ds then value_from (10 * v + (d - 48)) ds else 0) → or_zero (if t then digits_from (10 * v + (d - 48)) ds else None) ≡ (if t && all_of is_digit ds then value_from (10 * v + (d - 48)) ds else 0)
    go true e = e
    go false e = refl

-- THE RULES' NUMBER OF A WORD is that, or 0
pub word_is : (w : List ℕ) → or_zero (word_value w) ≡ word_number w
word_is w = go (between 1 8 (length w)) refl
  where
    go : (t : Bool) → between 1 8 (length w) ≡ t → or_zero (if t then digits_from 0 w else None) ≡ (if t && all_of is_digit w then value_from 0 w else 0)
    go true e = from_digits 0 w
    go false e = refl

-- ---- as an f32

-- the number, if it is from 1 to most, else 0
abbrev pub ranged : ℕ → ℕ → ℕ
ranged most n = if between 1 most n then n else 0

-- the f32 is the number n for a tool, whatever the range
pub record ToolNumber (n : ℕ) (x : Float) : Type 0 where
  pub is : (most : ℕ) → most ≤ 80 → whole_number most x ≡ ranged most n

-- a float of the value n
pub number_of : (x : Float) (n : ℕ) → HasValue x false n 1 → ToolNumber n x
unfolding whole_number
number_of nan n v = absurd v
number_of (inf s) n v = absurd v
number_of (fin true m e) n v = absurd (true≢false v.0)
number_of (fin false m e) n v = let c = quotient m e n v.1 in record { is = λ most b. simp (c.0, c.1) }

-- and 0 for a number past all ranges
pub number_past : (x : Float) (n : ℕ) → 80 < n → HasValue x false 0 1 → ToolNumber n x
number_past x n h v = record { is = λ most b. (number_of x 0 v).is most b ∙ sym (past most (omega arith)) }
  where
    past : (most : ℕ) → most < n → ranged most n ≡ 0
    past most b = rw (lt-leb n most b, and-false (leb 1 n))

-- ---- the tool

-- three f32 are a tool of the rules exactly if the three whole numbers are, and then the same
pub record SameTool (t : Tool) (w : WholeTool) : Type 0 where
  pub is : is_tool (whole_tool t) ≡ is_tool w
  pub same : is_tool w ≡ true → whole_tool t ≡ w

-- a number in its range is in it, and is the number
ranged_in : (most n : ℕ) → between 1 most (ranged most n) ≡ between 1 most n
ranged_in most n = go (between 1 most n) refl
  where
    go : (t : Bool) → between 1 most n ≡ t → between 1 most (if t then n else 0) ≡ t
    go true e = e
    go false e = refl

ranged_is : (most n : ℕ) → between 1 most n ≡ true → ranged most n ≡ n
ranged_is most n e = rw e

pub same_tool : (w : WholeTool) {x y z : Float} → ToolNumber w.pitch x → ToolNumber w.depth y → ToolNumber w.clearance z → SameTool (record { pitch = x; depth = y; clearance = z }) w
same_tool w p d c =
    let a = p.is 80 (omega arith) in
    let b = d.is 40 (omega arith) in
    let e = c.is 80 (omega arith) in
    record {
      is = rw (a, b, e, ranged_in 80 w.pitch, ranged_in 40 w.depth, ranged_in 80 w.clearance);
      same = λ is.
          let l = both _ _ is in
          let r = both _ _ l.1 in
          rw (a ∙ ranged_is 80 w.pitch l.0, b ∙ ranged_is 40 w.depth r.0, e ∙ ranged_is 80 w.clearance r.1);
    }

-- SO A DRAWING'S MOVES ARE THE SAME, or the same refusal
pub same_moves : (q : Plan) (t : Tool) (w : WholeTool) → SameTool t w → given_moves q (whole_tool t) ≡ given_moves q w
same_moves q t w s = go (is_tool w) refl
  where
    go : (b : Bool) → is_tool w ≡ b → given_moves q (whole_tool t) ≡ given_moves q w
    go true e = ap (given_moves q) (s.same e)
    go false e = rw (s.is, e)
