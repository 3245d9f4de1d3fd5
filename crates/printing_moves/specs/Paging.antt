-- 24 never happens: buffers for the moves of every drawing hold an order file's moves, and the page then begins with their lines.
use Rattle.std.specs.Prelude.{ℕ, ◌+◌, ◌*◌, ◌≤◌, ◌≡◌, refl, false, List, ◌++◌, length, take, drop, ltb, Float, Result as Outcome, Ok}
use Rattle.std.proofs.Common.{sym, ap, ◌∙◌, subst, arith, length-append, take_at, le-ltb}
use Rattle.rules.specs.declared.Style.{Style}
use Rattle.rules.specs.Refusals.{Result, good, refused, ◌>>=◌}
use Rattle.rules.specs.Results.{never-good, same_value}
use Rattle.rules.specs.Points.{Drawing as Plan}
use Rattle.rules.specs.OrderFile.{read_order}
use Rattle.rules.specs.Moves.{Tool as WholeTool, Move, given_moves}
use Rattle.rules.specs.MoveLines.{move_lines, moves_program}
use Rattle.rules.specs.Output.{judged_bytes, printed}
use Rattle.tool.specs.declared.Tool.{Tool}
use Rattle.tool.specs.Checking.{whole_tool}
use Rattle.answers.specs.declared.NotListed.{NotListed}
use Rattle.cutter_lists.specs.Listing.{kinds_of, numbers_of, length-kinds, length-numbers}
use Rattle.cutter.specs.Lists.{Lists}
use Rattle.printing_line.specs.Putting.{Printed}
use Rattle.printing_move.specs.Lines.{move_most, move_room, Held}
use Rattle.printing_words.specs.Numbers.{SameTool, same_moves}
use Rattle.printing_listed.specs.Counts.{most_moves, Roomy}
use Rattle.printing_listed.specs.Finishing.{lines_of, Within, Shown}
use Rattle.printing.specs.Began.{Began}

-- buffers of these lengths have room for every drawing's moves, and the page for their lines
pub record Room (kinds numbers page : ℕ) : Type 0 where
  pub kinds-long : most_moves ≤ kinds
  pub numbers-long : 2 * most_moves ≤ numbers
  pub page_long : move_most * kinds + move_room ≤ page

-- the moves of an order file's drawing with a tool of three f32
abbrev pub moves_in : Style → List ℕ → Tool → Result (List Move)
moves_in τ f t = read_order τ f >>= λ d. given_moves d (whole_tool t)

-- ---- the moves that are listed are those wanted

module _ {kinds : List ℕ} {numbers : List Float} {kinds' : List ℕ} {numbers' : List Float} {listed : Outcome ℕ NotListed} (kindly : most_moves ≤ length kinds) (wide : 2 * most_moves ≤ length numbers) where
  module _ (ms : List Move) (roomy : Roomy (good ms)) (l : Lists (good ms) kinds numbers kinds' numbers' listed) where
    -- both have room,
    kinds-fit : ltb (length kinds) (length ms) ≡ false
    kinds-fit = le-ltb (length kinds) (length ms) (omega (arith, roomy.few ms refl))

    numbers_fit : ltb (length numbers) (2 * length ms) ≡ false
    numbers_fit = le-ltb (length numbers) (2 * length ms) (omega (arith, roomy.few ms refl))

    -- so all are listed
    all_listed : listed ≡ Ok (length ms)
    all_listed = rw (kinds-fit, numbers_fit) at l.answer

    kinds_hold : kinds' ≡ kinds_of ms ++ drop (length (kinds_of ms)) kinds
    kinds_hold = rw (kinds-fit, numbers_fit) at l.kinds_after

    numbers_hold : numbers' ≡ numbers_of ms ++ drop (length (numbers_of ms)) numbers
    numbers_hold = rw (kinds-fit, numbers_fit) at l.numbers_after

    all_held : Held ms kinds' numbers'
    all_held =
        record {
          small = roomy.small ms refl;
          kinds_are = ap (take (length ms)) kinds_hold ∙ take_at (kinds_of ms) (drop (length (kinds_of ms)) kinds) (length ms) (length-kinds ms);
          numbers_are = ap (take (2 * length ms)) numbers_hold ∙ take_at (numbers_of ms) (drop (length (numbers_of ms)) numbers) (2 * length ms) (length-numbers ms);
        }

    all_within : Within listed (length kinds') (length numbers')
    all_within =
        rw all_listed (
          omega (arith, ap length kinds_hold, length-append (kinds_of ms) (drop (length (kinds_of ms)) kinds), length-kinds ms),
          omega (arith, ap length numbers_hold, length-append (numbers_of ms) (drop (length (numbers_of ms)) numbers), length-numbers ms),
        )

  -- THE MOVES WANTED stand in the buffers, or their refusal is the answer
  pub shown : (wanted : Result (List Move)) → Roomy wanted → Lists wanted kinds numbers kinds' numbers' listed → Shown wanted kinds' numbers' listed
  shown (good ms) roomy l =
      record {
        moves = λ ns e. subst (λ (o : List Move). (listed ≡ Ok (length o)) × Held o kinds' numbers') (same_value ms ns e) (all_listed ms roomy l, all_held ms roomy l);
        refusal = λ r p e. absurd (never-good (sym e));
      }
  shown (refused r p) roomy l = record { moves = λ ns e. absurd (never-good e); refusal = λ s q e. let a = l.answer in cc }

  pub within : (wanted : Result (List Move)) → Roomy wanted → Lists wanted kinds numbers kinds' numbers' listed → Within listed (length kinds') (length numbers')
  within (good ms) roomy l = all_within ms roomy l
  within (refused r p) roomy l = rw l.answer tt

-- ---- the program

-- the moves of the words' tool, in order
program-lines : (t : Tool) (w : WholeTool) → SameTool t w → (o : Result Plan) → lines_of (o >>= λ d. given_moves d (whole_tool t)) ≡ printed (o >>= λ d. given_moves d w >>= λ ms. good (move_lines ms))
program-lines t w s (good d) = ap lines_of (same_moves d t w s)
program-lines t w s (refused r p) = refl

-- "It judges the first 32,768 bytes of its input as the whole file": the bytes read are these
pub prints : (τ : Style) (t : Tool) {w : WholeTool} → SameTool t w → (file : List ℕ) {read page after : List ℕ} {r : ℕ} → Began file judged_bytes read →
    Printed page (lines_of (moves_in τ read t)) after r → Printed page (moves_program τ w file) after r
prints τ t {w} s file {page = page} {after} {r} b p =
    subst (λ (l : List ℕ). Printed page l after r) (program-lines t w s (read_order τ (take judged_bytes file)))
    (subst (λ (f : List ℕ). Printed page (lines_of (moves_in τ f t)) after r) b.is p)
