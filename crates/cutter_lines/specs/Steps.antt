-- The code's steps as the numbers of document 01's five moves.
use Rattle.std.specs.Prelude.{ℕ}
use Rattle.cutter_lines.specs.declared.Step.{Step}
use Rattle.cutter_lines.specs.declared.Step.TheVariants.{Travel, Plunge, CutToBend, CutToEarlier, Lift}

-- which of the five a step is
abbrev pub step_number : Step → ℕ
step_number Travel = 0
step_number Plunge = 1
step_number CutToBend = 2
step_number CutToEarlier = 3
step_number Lift = 4
