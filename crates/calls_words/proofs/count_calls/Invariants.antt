-- `calls_words::count_calls`: the calls found so far and those from `at` on are all the calls.
use Rattle.std.proofs.Common.{◌≡◌, ◌+◌, ◌-◌, ◌≤◌, length, drop}
use Rattle.calls_words.specs.Lists.{calls_in}
use Rattle.calls_words.proofs.count_calls.Given as goal

abbrev pub invariant-loop-at : goal.invariant-loop-at
invariant-loop-at l = (l.at ≤ length l.calls) × (l.found ≤ l.at) × (l.found + length (calls_in (drop l.at l.calls)) ≡ length (calls_in l.calls))

abbrev pub decreases-loop-at : goal.decreases-loop-at
decreases-loop-at l = length l.calls - l.at
