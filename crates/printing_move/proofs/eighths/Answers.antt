-- `printing_move::eighths` meets its contract: eight times the f32 is the whole number, with no error.
use Rattle.std.proofs.Common.{arith}
use Rattle.std.specs.Float.Ieee.{of_bits}
use Rattle.tool.specs.Exact.{eight_times}
use Rattle.printing_move.proofs.eighths.Goals as goal

pub returns : goal.returns
unfolding of_bits
returns c = record { small = omega (arith, c.min.ensures); is = λ n h v. omega (arith, c.min.ensures, c.whole_part.ensures n h (eight_times c.args.x n h v)) }
