-- The lines of moves whose numbers are f32, as they are put into a page.
use Rattle.std.specs.Prelude.{ℕ, zero, suc, ◌+◌, ◌*◌, ◌/◌, ◌≤◌, ◌<◌, ◌≡◌, refl, true, false, List, [], ◌∷◌, ◌++◌, length, take, Float}
use Rattle.std.proofs.Common.{ap, arith}
use Rattle.std.specs.Float.Ieee.{neg}
use Rattle.std.specs.Float.Ieee.Exact.{HasValue}
use Rattle.rules.specs.Moves.{Move, travel, plunge, cut, lift}
use Rattle.rules.specs.Decimal.{digits}
use Rattle.rules.specs.MoveLines.{fraction, millimetres, move_line}
use Rattle.tool.specs.declared.Move.{Move as FloatMove}
use Rattle.tool.specs.declared.Move.TheVariants.{Travel, Plunge, Cut, Lift}
use Rattle.tool.specs.Showing.{over_eight, in_floats, move_kind, move_numbers}
use Rattle.tool.specs.Exact.{Small, AllSmall, exact, negated}
use Rattle.printing_line.specs.Numbers.{digits_most}
use Rattle.pages.specs.declared.Page.{Page}
use Rattle.printing_line.specs.Putting.{most_digits}
use Rattle.pages.specs.Pages.{Grown, grown_both}
use Rattle.cutter_lists.specs.Listing.{kinds_of, numbers_of}

-- ---- bounds

-- every whole number of eighths below it is an f32
abbrev pub limit : ℕ
limit = 16777216

-- so it has at most seven whole digits, a point and three digits more; a coordinate, a blank, a coordinate and the line's end; "plunge -" in front of them
abbrev pub number_most : ℕ
number_most = 7 + 4

abbrev pub pair_most : ℕ
pair_most = number_most + 1 + number_most + 1

abbrev pub move_most : ℕ
move_most = 8 + pair_most

-- the room that is asked for: a number's whole digits are put where 20 would fit
abbrev pub number_room : ℕ
number_room = most_digits + 4

abbrev pub pair_room : ℕ
pair_room = number_most + 1 + number_room + 1

abbrev pub move_room : ℕ
move_room = 8 + pair_room

-- ---- the statements

-- r is the number of eighths that x is, if that is a whole number below the limit
pub record Eighths (x : Float) (r : ℕ) : Type 0 where
  pub small : r < limit
  pub is : (n : ℕ) → n < limit → HasValue x false n 8 → r ≡ n

-- two numbers of eighths and a line's end were put into the page
abbrev pub PairLine : Float → Float → Page → Page → Type 0
PairLine x y page after =
    (a b : ℕ) → a < limit → b < limit → HasValue x false a 8 → HasValue y false b 8 → Grown page (millimetres a ++ (32 ∷ (millimetres b ++ (10 ∷ [])))) after

-- one
abbrev pub HeightLine : Float → Page → Page → Type 0
HeightLine z page after = (a : ℕ) → a < limit → HasValue z false a 8 → Grown page (millimetres a ++ (10 ∷ [])) after

-- the line of the move that m is, if its numbers are small
abbrev pub MoveLine : FloatMove → Page → Page → Type 0
MoveLine m page after = (w : Move) → Small w → m ≡ in_floats w → Grown page (move_line w) after

-- m is the move that has this kind and these numbers, if there is one
abbrev pub MoveOf : ℕ → Float → Float → FloatMove → Type 0
MoveOf kind x y m = (w : FloatMove) → kind ≡ move_kind w → x ∷ y ∷ [] ≡ move_numbers w → m ≡ w

-- the move of this kind and these numbers
pub record Told (kind : ℕ) (x y : Float) (m : Move) : Type 0 where
  pub small : Small m
  pub kind_is : kind ≡ move_kind (in_floats m)
  pub numbers_are : x ∷ y ∷ [] ≡ move_numbers (in_floats m)

-- the two buffers begin with these moves
pub record Held (ms : List Move) (kinds : List ℕ) (numbers : List Float) : Type 0 where
  pub small : AllSmall ms
  pub kinds_are : take (length ms) kinds ≡ kinds_of ms
  pub numbers_are : take (2 * length ms) numbers ≡ numbers_of ms

-- ---- laws of a line

-- no fraction but the seven
pub no_fraction : (r : ℕ) → (r ≡ 1 → ⊥) → (r ≡ 2 → ⊥) → (r ≡ 3 → ⊥) → (r ≡ 4 → ⊥) → (r ≡ 5 → ⊥) → (r ≡ 6 → ⊥) → (r ≡ 7 → ⊥) → [] ≡ fraction r
no_fraction zero a b c d e f g = refl
no_fraction (suc zero) a b c d e f g = absurd (a refl)
no_fraction (suc (suc zero)) a b c d e f g = absurd (b refl)
no_fraction (suc (suc (suc zero))) a b c d e f g = absurd (c refl)
no_fraction (suc (suc (suc (suc zero)))) a b c d e f g = absurd (d refl)
no_fraction (suc (suc (suc (suc (suc zero))))) a b c d e f g = absurd (e refl)
no_fraction (suc (suc (suc (suc (suc (suc zero)))))) a b c d e f g = absurd (f refl)
no_fraction (suc (suc (suc (suc (suc (suc (suc zero))))))) a b c d e f g = absurd (g refl)
no_fraction (suc (suc (suc (suc (suc (suc (suc (suc r)))))))) a b c d e f g = refl

-- the whole millimetres have at most seven digits
pub seven-digits : (n : ℕ) → n < limit → length (digits (n / 8)) ≤ 7
seven-digits n h = digits_most 6 (n / 8) (omega arith)

-- the first number, and the second, of two
first_of_lem : {x y u v : Float} → x ∷ y ∷ [] ≡ u ∷ v ∷ [] → u ≡ x
first_of_lem e = cc

second_of : {x y u v : Float} → x ∷ y ∷ [] ≡ u ∷ v ∷ [] → v ≡ y
second_of e = cc

-- a float that is n eighths, and one that is minus as many
value_of : {x : Float} {n : ℕ} → n < limit → over_eight n ≡ x → HasValue x false n 8
value_of {n = n} h e = rw e at (exact n h)

value_under : {x : Float} {n : ℕ} → n < limit → neg (over_eight n) ≡ x → HasValue (neg x) false n 8
value_under {n = n} h e = rw e at (negated (neg (over_eight n)) true n 8 (negated (over_eight n) false n 8 (exact n h)))

-- A MOVE'S LINE: the word of its kind, and then its numbers
module _ {page middle after : Page} where
  pub travel_line : {x y : Float} → Grown page (116 ∷ 114 ∷ 97 ∷ 118 ∷ 101 ∷ 108 ∷ 32 ∷ []) middle → PairLine x y middle after → MoveLine (Travel x y) page after
  travel_line word pair (travel a b) s e = let n = ap move_numbers e in grown_both word (pair a b s.0 s.1 (value_of s.0 (first_of_lem n)) (value_of s.1 (second_of n)))
  travel_line word pair (plunge z) s e = absurd (omega (arith, ap move_kind e))
  travel_line word pair (cut a b) s e = absurd (omega (arith, ap move_kind e))
  travel_line word pair (lift z) s e = absurd (omega (arith, ap move_kind e))

  pub plunge_line : {z : Float} → Grown page (112 ∷ 108 ∷ 117 ∷ 110 ∷ 103 ∷ 101 ∷ 32 ∷ 45 ∷ []) middle → HeightLine (neg z) middle after → MoveLine (Plunge z) page after
  plunge_line word height (travel a b) s e = absurd (omega (arith, ap move_kind e))
  plunge_line word height (plunge z) s e = grown_both word (height z s (value_under s (first_of_lem (ap move_numbers e))))
  plunge_line word height (cut a b) s e = absurd (omega (arith, ap move_kind e))
  plunge_line word height (lift z) s e = absurd (omega (arith, ap move_kind e))

  pub cut_line_lem : {x y : Float} → Grown page (99 ∷ 117 ∷ 116 ∷ 32 ∷ []) middle → PairLine x y middle after → MoveLine (Cut x y) page after
  cut_line_lem word pair (travel a b) s e = absurd (omega (arith, ap move_kind e))
  cut_line_lem word pair (plunge z) s e = absurd (omega (arith, ap move_kind e))
  cut_line_lem word pair (cut a b) s e = let n = ap move_numbers e in grown_both word (pair a b s.0 s.1 (value_of s.0 (first_of_lem n)) (value_of s.1 (second_of n)))
  cut_line_lem word pair (lift z) s e = absurd (omega (arith, ap move_kind e))

  pub lift_line : {z : Float} → Grown page (108 ∷ 105 ∷ 102 ∷ 116 ∷ 32 ∷ []) middle → HeightLine z middle after → MoveLine (Lift z) page after
  lift_line word height (travel a b) s e = absurd (omega (arith, ap move_kind e))
  lift_line word height (plunge z) s e = absurd (omega (arith, ap move_kind e))
  lift_line word height (cut a b) s e = absurd (omega (arith, ap move_kind e))
  lift_line word height (lift z) s e = grown_both word (height z s (value_of s (first_of_lem (ap move_numbers e))))
