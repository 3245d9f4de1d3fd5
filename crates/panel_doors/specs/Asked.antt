-- What C is told of a question to the drawing of an order file, or to the drawing that a list of calls leaves: one statement for moves and look-ups.
use Rattle.std.specs.Prelude.{ℕ, List}
use Rattle.rules.specs.declared.Style.{Style}
use Rattle.rules.specs.Refusals.{Result, Answer}
use Rattle.rules.specs.Points.{Drawing as Plan}
use Rattle.panel_words.specs.Words.{no_buffer, answers_buffer}
use Rattle.panel_told.specs.Telling.{Tells, given_with}
use Rattle.panel_asked.specs.Asking.{Question, IsAnswer}
use Rattle.panel_doors.specs.Sources.{OrderGives, CallsGive}

-- C was told the right answer, of the drawing that a source gives; the call could find `buffer` too short
pub record Asked {S A : Type 0} (Gives : Result Plan → Type 0) (ask : Question S A) (buffer : ℕ) (before after : List A) (r : ℕ) (refusal : List ℕ) : Type 0 where
  pub outcome : Result Plan
  pub gives : Gives outcome
  pub seen : Answer S
  pub right : IsAnswer ask outcome seen
  pub told : Tells buffer (given_with ask.given seen) before after r refusal

-- of an order file's drawing
abbrev pub OrderAsked : {S A : Type 0} → Style → Question S A → List ℕ → List A → List A → ℕ → List ℕ → Type 0
OrderAsked τ ask f before after r refusal = Asked (OrderGives τ f) ask no_buffer before after r refusal

-- of the drawing that a list of calls leaves
abbrev pub CallsAsked : {S A : Type 0} → Style → Question S A → ℕ → List ℕ → List ℕ → List ℕ → List A → List A → ℕ → List ℕ → Type 0
CallsAsked τ ask n ws saidBefore saidAfter before after r refusal = Asked (CallsGive τ n ws saidBefore saidAfter) ask answers_buffer before after r refusal
