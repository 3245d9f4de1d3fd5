-- `planar_judging::in_both` meets its contract: the first i lines stand in both lists, and backs has where.
use Rattle.std.specs.Prelude.{ℕ, ◌<◌, ◌≡◌, length, get_or, ltb}
use Rattle.planar_rules.specs.PlanarCode.{back}
use Rattle.planar_reading.specs.Reads.{net_in}
use Rattle.planar_judging.specs.Laws.{Passed}
use Rattle.planar_judging.proofs.in_both.Given as goal

abbrev pub invariant-loop-i : goal.invariant-loop-i
invariant-loop-i l =
    let f = net_in l.net in
    Passed (λ k. ltb (back f k) f.D) f.D l.i × (length l.backs ≡ 1536) × ((k : ℕ) → k < l.i → get_or l.backs k 0 ≡ back f k)
