-- Each return is one of the outcomes.
use Rattle.std.proofs.Common.{arith}
use Rattle.calls_words.specs.Rests.{calls_most}
use Rattle.calls.proofs.Outcomes.{out_of_range, too_short, accepted}
use Rattle.calls.proofs.run_in.Goals as goal

pub returns-then-n-lt-FEWEST_POINTS-clause-ran : goal.returns-then-n-lt-FEWEST_POINTS-clause-ran
returns-then-n-lt-FEWEST_POINTS-clause-ran c = rw c.at.ensures (out_of_range (λ l u. omega arith))

pub returns-then-n-gt-MOST_POINTS-clause-ran : goal.returns-then-n-gt-MOST_POINTS-clause-ran
returns-then-n-gt-MOST_POINTS-clause-ran c = rw c.at-then-n-gt-MOST_POINTS.ensures (out_of_range (λ l u. omega arith))

pub overflow_mul-needed : goal.overflow_mul-needed
overflow_mul-needed c = omega (arith, calls_most c.args.calls.now)

pub returns-then-answers-needed-clause-ran : goal.returns-then-answers-needed-clause-ran
returns-then-answers-needed-clause-ran c = rw c.at-then-answers-needed.ensures (too_short (omega arith) (omega arith) (omega arith))

pub returns-clause-ran : goal.returns-clause-ran
returns-clause-ran c = accepted _ (record { low = omega arith; high = omega arith; room = omega arith }) c.draw_calls.ensures
