-- What an order file's moves ask of the buffers: there are at most ten a line, and so at most 30,720, and every number of them is below 2 ^ 24.
use Rattle.std.specs.Prelude.{ℕ, ◌≤◌, ◌≡◌, List, length}
use Rattle.rules.specs.Refusals.{Result, good}
use Rattle.rules.specs.Moves.{Move}
use Rattle.tool.specs.Exact.{AllSmall}

-- room for the moves of every drawing: ten for each of 3,072 lines
abbrev pub most_moves : ℕ
most_moves = 30720

-- moves that are given are so few and so small
pub record Roomy (wanted : Result (List Move)) : Type 0 where
  pub few : (ms : List Move) → wanted ≡ good ms → length ms ≤ most_moves
  pub small : (ms : List Move) → wanted ≡ good ms → AllSmall ms
