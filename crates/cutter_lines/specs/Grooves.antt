-- A line as it is cut: its moves, as often as it is cut, each time without the cuts to where the cutter is.
use Rattle.std.specs.Prelude.{ℕ, ◌+◌, ◌*◌, ◌≤◌, Bool, ◌&&◌, List, get_or, leb, if◌then◌else◌}
use Rattle.rules.specs.declared.Kind.{Kind}
use Rattle.rules.specs.declared.Kind.TheVariants.{Guide, Plain, Feeder}
use Rattle.rules.specs.declared.Style.TheVariants.{OneBend}
use Rattle.rules.specs.declared.Place.{Place}
use Rattle.rules.specs.Moves.{Tool as WholeTool, Move as WholeMove, lift, line_moves, without_dwelling, repeated}
use Rattle.rules.specs.MoveCounts.{moves_each}
use Rattle.tool.specs.declared.Numbers.{Numbers}
use Rattle.tool.specs.Checking.{tool_of}
use Rattle.cutter_lines.specs.declared.Groove.{Groove}

-- document 01's five moves of the line
abbrev pub five_moves : ℕ → WholeTool → Groove → List WholeMove
five_moves s t g = line_moves OneBend s t g.later g.bend g.earlier

-- its moves each time that it is cut, and all of them
abbrev pub once_moves : ℕ → WholeTool → Groove → List WholeMove
once_moves s t g = without_dwelling 0 0 (five_moves s t g)

abbrev pub groove_moves : ℕ → WholeTool → Groove → List WholeMove
groove_moves s t g = repeated g.kind (once_moves s t g)

-- one of the five, and one of all
abbrev pub five_move : ℕ → ℕ → Numbers → Groove → WholeMove
five_move which s t g = get_or (five_moves s (tool_of t) g) which (lift 0)

abbrev pub groove_move : ℕ → ℕ → Numbers → Groove → WholeMove
groove_move number s t g = get_or (groove_moves s (tool_of t) g) number (lift 0)

-- how often a line of this kind is cut
abbrev pub cuts : Kind → ℕ
cuts Guide = 0
cuts Plain = 1
cuts Feeder = 2

-- how many moves it gives each time, and in all
abbrev pub each : Groove → ℕ
each g = moves_each g.later g.bend g.earlier

abbrev pub total : Groove → ℕ
total g = cuts g.kind * each g

-- a step, or the next one where it stands at or behind a cut that is left out
abbrev pub past_cut : Bool → ℕ → ℕ → ℕ
past_cut out cut step = if out && leb cut step then step + 1 else step

-- which of the five is move `which`, where the cut to the bend is left out, or the cut to the earlier point
abbrev pub step_of : Bool → Bool → ℕ → ℕ
step_of bendOut endOut which = past_cut endOut 3 (past_cut bendOut 2 which)

-- a place on the grid of a drawing: at most 5 * 1,024 - 9 across and up
pub record OnGrid (p : Place) : Type 0 where
  pub across : p.x ≤ 5111
  pub up : p.y ≤ 5111

pub record GrooveOnGrid (g : Groove) : Type 0 where
  pub later : OnGrid g.later
  pub bend : OnGrid g.bend
  pub earlier : OnGrid g.earlier
