-- `printing_words::word_number` meets its contract: of at most eight digits, those before the last make a number below 10 ^ 7.
use Rattle.std.proofs.Common.{arith}
use Rattle.std.proofs.Math.Nat.{pow-le-pow_right}
use Rattle.printing_words.proofs.word_number.Goals as goal

pub overflow_mul-v : goal.overflow_mul-v
overflow_mul-v c = omega (arith, c.loop-b.invariant.0, pow-le-pow_right {n = 10} (omega arith) {i = c.loop-b.b-index} {j = 7} (omega arith))

pub overflow_add-v : goal.overflow_add-v
overflow_add-v c = omega (arith, c.in_ok-digit.ensures.cases, c.loop-b.invariant.0, pow-le-pow_right {n = 10} (omega arith) {i = c.loop-b.b-index} {j = 7} (omega arith))
