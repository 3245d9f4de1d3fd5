-- `all_calls` meets its contract: the loop keeps `Going`, and each turn is its `turn`.
use Rattle.std.specs.Prelude.{◌-◌, length}
use Rattle.calls.proofs.Going.{Going}
use Rattle.calls.proofs.all_calls.Given as goal

abbrev pub invariant-loop-at : goal.invariant-loop-at
invariant-loop-at l = Going l.initial.d.counts.style l.initial.d.counts.n l.calls l.initial.answers l.d l.at l.told l.answers

abbrev pub decreases-loop-at : goal.decreases-loop-at
decreases-loop-at l = length l.calls - l.at
