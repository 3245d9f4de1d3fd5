-- "a tool is three whole numbers of eighths of a millimetre, .. held as f32": the whole numbers, and what the check answers.
use Rattle.std.specs.Prelude.{◌≡◌, ℕ, ◌*◌, ◌/◌, ◌%◌, ◌<◌, ◌≤◌, true, false, ◌&&◌, ◌==◌, leb, Float, if◌then◌else◌, Option, Some, None}
use Rattle.std.specs.Float.{nan, inf, fin}
use Rattle.std.specs.Float.Ieee.{up, down}
use Rattle.std.specs.Float.Ieee.Exact.{HasValue}
use Rattle.rules.specs.Basics.{between}
use Rattle.rules.specs.Refusals.{Told, gives, refused_with}
use Rattle.rules.specs.Moves.{Tool as WholeTool, is_tool}
use Rattle.tool.specs.declared.Tool.{Tool}
use Rattle.tool.specs.declared.Numbers.{Numbers}

-- the whole number that the float is, if it is one from 1 to most, else 0: so 0 for NaN, an infinity, any number with a minus (-0 too), a fraction, and a number out of range.
-- `fin false m e` is the number m * up e / down e.
unfoldable pub whole_number : ℕ → Float → ℕ
whole_number most nan = 0
whole_number most (inf s) = 0
whole_number most (fin true m e) = 0
whole_number most (fin false m e) =
    let n = m * up e / down e in
    if m * up e % down e == 0 && between 1 most n then n else 0

-- the same number, if the float is one
abbrev pub number_in : ℕ → Float → Option ℕ
number_in most x = if leb 1 (whole_number most x) then Some (whole_number most x) else None

-- if the float's value is a whole number below 2 ^ 24, it is n
abbrev pub WholePart : Float → ℕ → Type 0
WholePart x n = (k : ℕ) → k < 16777216 → HasValue x false k 1 → n ≡ k

-- the tool of the rules that three f32 are
abbrev pub whole_tool : Tool → WholeTool
whole_tool t = record { pitch = whole_number 80 t.pitch; depth = whole_number 40 t.depth; clearance = whole_number 80 t.clearance }

-- the same three numbers as the rules have them and as the code has them
abbrev pub tool_of : Numbers → WholeTool
tool_of n = record { pitch = n.pitch; depth = n.depth; clearance = n.clearance }

abbrev pub numbers_of : WholeTool → Numbers
numbers_of t = record { pitch = t.pitch; depth = t.depth; clearance = t.clearance }

-- the numbers of a tool; "any other f32 there gives 12"
unfoldable pub checked_of : Tool → Option Numbers
checked_of t = if is_tool (whole_tool t) then Some (numbers_of (whole_tool t)) else None

-- a case of the check in document 01's numbers
abbrev pub told_tool : Option Numbers → Told WholeTool
told_tool (Some n) = gives (tool_of n)
told_tool None = refused_with 12 0

-- a tool's numbers are not above "pitch 80, depth 40, clearance 80", and the pitch isn't 0
pub record InRange (n : Numbers) : Type 0 where
  pub some : 1 ≤ n.pitch
  pub pitch : n.pitch ≤ 80
  pub depth : n.depth ≤ 40
  pub clearance : n.clearance ≤ 80
