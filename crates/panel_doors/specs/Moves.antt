-- What C is told of all moves of an order file's drawing, or of the drawing that a list of calls leaves.
use Rattle.std.specs.Prelude.{ℕ, ◌≡◌, List, Float, Result as Outcome}
use Rattle.rules.specs.declared.Style.{Style}
use Rattle.rules.specs.Refusals.{Result, ◌>>=◌}
use Rattle.rules.specs.Points.{Drawing as Plan}
use Rattle.rules.specs.Moves.{given_moves}
use Rattle.tool.specs.declared.Tool.{Tool}
use Rattle.tool.specs.Checking.{whole_tool}
use Rattle.answers.specs.declared.NotListed.{NotListed}
use Rattle.cutter.specs.Lists.{Lists}
use Rattle.panel_words.specs.Words.{no_buffer, answers_buffer}
use Rattle.panel_told.specs.Telling.{code_of, refusal_of}
use Rattle.panel_told.specs.Answers.{list_given, short_for}
use Rattle.panel_doors.specs.Sources.{OrderGives, CallsGive}

-- the moves of the drawing that a source gives were to be written, and C was told how many, or the refusal; another 24 than theirs is of `buffer`
pub record MovesTold (Gives : Result Plan → Type 0) (buffer : ℕ) (t : Tool) (kinds : List ℕ) (numbers : List Float) (kinds' : List ℕ) (numbers' : List Float) (r : ℕ) (refusal : List ℕ) : Type 0 where
  pub outcome : Result Plan
  pub gives : Gives outcome
  pub listed : Outcome ℕ NotListed
  pub lists : Lists (outcome >>= λ d. given_moves d (whole_tool t)) kinds numbers kinds' numbers' listed
  pub count : r ≡ code_of (list_given listed)
  pub place : refusal ≡ refusal_of (short_for buffer listed) (list_given listed)

-- of an order file's drawing
abbrev pub OrderMoves : Style → Tool → List ℕ → List ℕ → List Float → List ℕ → List Float → ℕ → List ℕ → Type 0
OrderMoves τ t f kinds numbers kinds' numbers' r refusal = MovesTold (OrderGives τ f) no_buffer t kinds numbers kinds' numbers' r refusal

-- of the drawing that a list of calls leaves
abbrev pub CallsMoves : Style → Tool → ℕ → List ℕ → List ℕ → List ℕ → List ℕ → List Float → List ℕ → List Float → ℕ → List ℕ → Type 0
CallsMoves τ t n ws saidBefore saidAfter kinds numbers kinds' numbers' r refusal =
    MovesTold (CallsGive τ n ws saidBefore saidAfter) answers_buffer t kinds numbers kinds' numbers' r refusal
