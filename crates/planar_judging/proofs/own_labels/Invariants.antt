-- `planar_judging::own_labels` meets its contract: each of the first x vertices has its own label.
use Rattle.std.specs.Prelude.{ℕ, ◌<◌, ◌≡◌, length, get_or}
use Rattle.planar_judging.proofs.own_labels.Given as goal

abbrev pub invariant-loop-x : goal.invariant-loop-x
invariant-loop-x l = (length l.labels ≡ 256) × ((k : ℕ) → k < l.x → get_or l.labels k 0 ≡ k)
