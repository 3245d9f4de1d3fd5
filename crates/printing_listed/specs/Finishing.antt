-- What is printed of moves that were wanted, and listed or refused.
use Rattle.std.specs.Prelude.{ℕ, ◌*◌, ◌≤◌, ◌≡◌, refl, List, length, Float, Result as Outcome, Ok, Err}
use Rattle.std.proofs.Common.{ap, arith}
use Rattle.rules.specs.declared.Refusal.{Refusal}
use Rattle.rules.specs.Refusals.{Result, good, refused, number, refusal_at, ◌>>=◌}
use Rattle.rules.specs.Moves.{Move}
use Rattle.rules.specs.MoveLines.{move_lines}
use Rattle.rules.specs.Output.{refusal_line, printed}
use Rattle.answers.specs.declared.NotListed.{NotListed}
use Rattle.answers.specs.Told.{listed_refusal}
use Rattle.printing_line.specs.Putting.{Printed}
use Rattle.printing_move.specs.Lines.{Held}

-- the lines of the moves that are wanted, or that of the refusal
abbrev pub lines_of : Result (List Move) → List ℕ
lines_of wanted = printed (wanted >>= λ ms. good (move_lines ms))

-- the moves that are listed lie in buffers of these lengths
abbrev pub Within : Outcome ℕ NotListed → ℕ → ℕ → Type 0
Within (Ok count) kinds numbers = (count ≤ kinds) × (2 * count ≤ numbers)
Within (Err e) kinds numbers = Unit {0}

-- the moves that were wanted stand in the buffers, or their refusal is the answer
pub record Shown (wanted : Result (List Move)) (kinds : List ℕ) (numbers : List Float) (listed : Outcome ℕ NotListed) : Type 0 where
  pub moves : (ms : List Move) → wanted ≡ good ms → (listed ≡ Ok (length ms)) × Held ms kinds numbers
  pub refusal : (r : Refusal) (p : ℕ) → wanted ≡ refused r p → listed ≡ Err (NotListed.Refused (refusal_at r p))

-- ---- laws, by what is listed

-- which case it is
abbrev pub case : Outcome ℕ NotListed → ℕ
case (Ok count) = 0
case (Err e) = 1

module _ {kinds : List ℕ} {numbers : List Float} {listed : Outcome ℕ NotListed} {page after : List ℕ} {r : ℕ} where
  pub finished-moves : {count : ℕ} (wanted : Result (List Move)) → Shown wanted kinds numbers listed → listed ≡ Ok count →
      ((ms : List Move) → length ms ≡ count → Held ms kinds numbers → Printed page (move_lines ms) after r) → Printed page (lines_of wanted) after r
  finished-moves (good ms) s e put = let m = s.moves ms refl in put ms (cc) m.1
  finished-moves (refused f p) s e put = absurd (omega (arith, ap case (s.refusal f p refl), ap case e))

  pub finished-line : {e : NotListed} (wanted : Result (List Move)) → Shown wanted kinds numbers listed → listed ≡ Err e → Printed page (refusal_line (number (listed_refusal e).refusal) (listed_refusal e).place) after r → Printed page (lines_of wanted) after r
  finished-line (good ms) s h line = absurd (omega (arith, ap case (s.moves ms refl).0, ap case h))
  finished-line {e} (refused g q) s h line = let k = s.refusal g q refl in let a : e ≡ NotListed.Refused (refusal_at g q) = cc in rw a at line
