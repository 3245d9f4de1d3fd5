-- All moves of the drawing that goes with an accepting answer.
use Rattle.std.specs.Prelude.{ℕ, List, Float, Result as Outcome}
use Rattle.rules.specs.Refusals.{Result, Answer, ◌>>=◌}
use Rattle.rules.specs.Points.{Drawing as Plan}
use Rattle.rules.specs.Moves.{given_moves}
use Rattle.store_tables.specs.declared.Drawing.{Drawing}
use Rattle.tool.specs.declared.Tool.{Tool}
use Rattle.tool.specs.Checking.{whole_tool}
use Rattle.answers.specs.declared.NotListed.{NotListed}
use Rattle.cutter.specs.Lists.{Lists}
use Rattle.panel_asked.specs.Asking.{Drew}

-- the moves were to be written, where there is a drawing, or the answer's refusal stands for them
abbrev pub FindsAll : Answer (Unit {0}) → Drawing → Tool → List ℕ → List Float → List ℕ → List Float → Outcome ℕ NotListed → Type 0
FindsAll a d t kinds numbers kinds' numbers' r =
    (o : Result Plan) → Drew o d a → Lists (o >>= λ q. given_moves q (whole_tool t)) kinds numbers kinds' numbers' r
