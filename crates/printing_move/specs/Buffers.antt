-- Moves in two buffers, line by line.
use Rattle.std.specs.Prelude.{ℕ, zero, suc, ◌+◌, ◌*◌, ◌<◌, ◌≡◌, refl, List, [], ◌∷◌, ◌++◌, length, take, get_or, Float}
use Rattle.std.proofs.Common.{ap, sym, ◌∙◌, append-nil, append_assoc, arith, add-one, take-suc, get_or-take}
use Rattle.std.specs.Float.{nan}
use Rattle.rules.specs.Moves.{Move, lift}
use Rattle.rules.specs.MoveLines.{move_line, move_lines}
use Rattle.tool.specs.declared.Move.{Move as FloatMove}
use Rattle.tool.specs.declared.Move.TheVariants.{Travel, Plunge, Cut, Lift}
use Rattle.tool.specs.Showing.{in_floats, move_kind, move_numbers}
use Rattle.tool.specs.Exact.{small_at}
use Rattle.pages.specs.declared.Page.{Page}
use Rattle.pages.specs.Pages.{Grown, grown_both}
use Rattle.cutter_lists.specs.Listing.{kinds_of, numbers_of}
use Rattle.printing_move.specs.Lines.{Told, Held}

-- ---- move i of the buffers

kind_at : (ms : List Move) (i : ℕ) → i < length ms → get_or (kinds_of ms) i 0 ≡ move_kind (in_floats (get_or ms i (lift 0)))
kind_at [] i h = absurd (omega arith)
kind_at (m ∷ ms) zero h = refl
kind_at (m ∷ ms) (suc i) h = kind_at ms i (omega arith)

-- the first move's two numbers, and those behind them
pair_first : (m : FloatMove) (l : List Float) → get_or (move_numbers m ++ l) 0 nan ∷ get_or (move_numbers m ++ l) 1 nan ∷ [] ≡ move_numbers m
pair_first (Travel x y) l = refl
pair_first (Plunge z) l = refl
pair_first (Cut x y) l = refl
pair_first (Lift z) l = refl

pair_next : (m : FloatMove) (l : List Float) (j : ℕ) → get_or (move_numbers m ++ l) (suc (suc j)) nan ≡ get_or l j nan
pair_next (Travel x y) l j = refl
pair_next (Plunge z) l j = refl
pair_next (Cut x y) l j = refl
pair_next (Lift z) l j = refl

numbers_at : (ms : List Move) (i : ℕ) → i < length ms → get_or (numbers_of ms) (2 * i) nan ∷ get_or (numbers_of ms) (2 * i + 1) nan ∷ [] ≡ move_numbers (in_floats (get_or ms i (lift 0)))
numbers_at [] i h = absurd (omega arith)
numbers_at (m ∷ ms) zero h = pair_first (in_floats m) (numbers_of ms)
numbers_at (m ∷ ms) (suc i) h =
    let e : 2 * suc i ≡ suc (suc (2 * i)) = omega arith in
    let f : 2 * suc i + 1 ≡ suc (suc (2 * i + 1)) = omega arith in
    rw (f, e, pair_next (in_floats m) (numbers_of ms) (2 * i), pair_next (in_floats m) (numbers_of ms) (2 * i + 1)) (numbers_at ms i (omega arith))

-- MOVE i stands there
pub told_at : {kinds : List ℕ} {numbers : List Float} (ms : List Move) (i : ℕ) → i < length ms → Held ms kinds numbers →
    Told (get_or kinds i 0) (get_or numbers (2 * i) nan) (get_or numbers (2 * i + 1) nan) (get_or ms i (lift 0))
told_at {kinds} {numbers} ms i h b =
    let n = 2 * length ms in
    record {
      small = small_at ms i h b.small;
      kind_is = sym (get_or-take (length ms) kinds i 0 h) ∙ ap (λ (l : List ℕ). get_or l i 0) b.kinds_are ∙ kind_at ms i h;
      numbers_are =
          rw (← get_or-take n numbers (2 * i) nan (omega arith), ← get_or-take n numbers (2 * i + 1) nan (omega arith), b.numbers_are) (numbers_at ms i h);
    }

-- ---- their lines

lines_more : (ms : List Move) (m : Move) → move_lines (ms ++ (m ∷ [])) ≡ move_lines ms ++ move_line m
lines_more [] m = append-nil (move_line m)
lines_more (n ∷ ms) m = ap (λ (l : List ℕ). move_line n ++ l) (lines_more ms m) ∙ sym (append_assoc (move_line n) (move_lines ms) (move_line m))

-- one line more
pub lines_next : {page middle after : Page} (ms : List Move) (i : ℕ) → i < length ms → Grown page (move_lines (take i ms)) middle → Grown middle (move_line (get_or ms i (lift 0))) after →
    Grown page (move_lines (take (i + 1) ms)) after
lines_next ms i h p q = rw (add-one i, take-suc ms i (lift 0) h, lines_more (take i ms) (get_or ms i (lift 0))) (grown_both p q)
