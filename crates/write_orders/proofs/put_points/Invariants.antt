-- `put_points`: the points below p are written, the others are ahead, in the same page.
use Rattle.std.specs.Prelude.{◌≡◌}
use Rattle.write_orders.proofs.Turns.{Pointing}
use Rattle.write_orders.proofs.put_points.Given as goal

abbrev pub invariant-loop-p : goal.invariant-loop-p
invariant-loop-p l =
    let first = l.initial.page in
    (l.page.bytes.ghost_name ≡ first.bytes.ghost_name) × Pointing first.bytes.now first.at l.lines l.n l.all l.page.bytes.now l.page.at l.from l.p
