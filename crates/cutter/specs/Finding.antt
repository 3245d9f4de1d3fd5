-- Where a move is found: in which line, and how many moves stand before that line's.
use Rattle.std.specs.Prelude.{ℕ, ◌+◌, ◌*◌, ◌<◌, ◌≤◌, ◌≡◌, List, length, Option, Some, None}
use Rattle.std.proofs.Common.{sym, ap, ◌∙◌, add-one, arith, length-append}
use Rattle.rules.specs.Points.{Drawing as Plan, line_at}
use Rattle.rules.specs.Moves.{Tool as WholeTool, moves_of, all_moves}
use Rattle.promise.proofs.Bounds.{lines_most}
use Rattle.store_links.specs.declared.Counts.{Counts}
use Rattle.store_links.specs.Arrays.{Arrays}
use Rattle.store_laws.specs.Adding.{Holds}
use Rattle.store_tables.specs.declared.Drawing.{Drawing}
use Rattle.store_laws.specs.Stored.{Is}
use Rattle.tool.specs.declared.Numbers.{Numbers}
use Rattle.tool.specs.Checking.{tool_of}
use Rattle.drawing.specs.Places.{PlacedIn}
use Rattle.cutter_lines.specs.declared.Groove.{Groove}
use Rattle.cutter_lines.specs.Grooves.{total}
use Rattle.cutter_grooves.specs.Grooves.{groove_of, groove_count}
use Rattle.cutter.specs.declared.Found.{Found}
use Rattle.cutter.specs.Numbering.{moves_to, to_next, to_all}

-- r is the line that gives move i, and how many moves stand before that line's
pub record FindsMove (q : Plan) (t : WholeTool) (i : ℕ) (r : Found) : Type 0 where
  pub within : r.line < length q.lines
  pub before : r.before ≡ length (moves_to q t r.line)
  pub low : r.before ≤ i
  pub high : i < r.before + length (moves_of q t (line_at q r.line))

-- that line, or none where there is no move i
abbrev pub Finds : Plan → WholeTool → ℕ → Option Found → Type 0
Finds q t i (Some r) = FindsMove q t i r
Finds q t i None = length (all_moves q t) ≤ i

-- a buffer has room for all kinds, and one for all numbers
abbrev pub RoomIn : Drawing → Numbers → ℕ → ℕ → Type 0
RoomIn d t kinds numbers = (q : Plan) → Is q d → (length (all_moves q (tool_of t)) ≤ kinds) × (2 * length (all_moves q (tool_of t)) ≤ numbers)

-- A drawing has few lines.
pub few-lines : {d : Drawing} {x : List ℕ} → PlacedIn d x → d.counts.lines ≤ 3067
few-lines p = omega (arith, lines_most _ p.came.is.standing, p.came.is.stores.lines)

-- What is counted of a line is how many moves it gives.
pub total_is : (q : Plan) (t : WholeTool) (e : ℕ) (g : Groove) → g ≡ groove_of q (line_at q e) → 1 ≤ q.s → 1 ≤ t.pitch → total g ≡ length (moves_of q t (line_at q e))
total_is q t e g is some wide = rw is (sym (groove_count q t (line_at q e) some wide))

-- ---- the search, line by line: `before` moves stand before line e's

module _ {q : Plan} {a : Arrays} {c : Counts} (h : Holds q a c) (t : WholeTool) (e before : ℕ) (is : before ≡ length (moves_to q t e)) where
  -- behind the last line stand all moves
  pub counted_all : c.lines ≤ e → before ≡ length (all_moves q t)
  counted_all all = is ∙ ap length (to_all q t e (omega (arith, h.stores.lines)))

  module _ (b : e < c.lines) (g : Groove) (seen : g ≡ groove_of q (line_at q e)) (some : 1 ≤ c.s) (wide : 1 ≤ t.pitch) where
    el : e < length q.lines
    el = omega (arith, h.stores.lines)

    here : total g ≡ length (moves_of q t (line_at q e))
    here = total_is q t e g seen (omega (arith, h.stores.s)) wide

    -- it is one of this line's
    pub found_here : (i : ℕ) → before ≤ i → i < before + total g → FindsMove q t i (record { line = e; before = before })
    found_here i low high = record { within = el; before = is; low = low; high = omega (arith, here) }

    -- the next line
    pub found_next : before + total g ≡ length (moves_to q t (e + 1))
    found_next =
        let n = ap length (to_next q t e el) in
        rw (add-one e) (omega (arith, is, here, n, length-append (moves_to q t e) (moves_of q t (line_at q e))))
