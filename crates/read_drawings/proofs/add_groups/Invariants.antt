-- `add_groups` meets its contract. The loop's invariant: from the plan that is stored, the rest of the groups gives the whole result.
use Rattle.std.specs.Prelude.{◌≡◌}
use Rattle.rules.specs.Points.{Drawing as Plan}
use Rattle.store_laws.specs.Stored.{Is}
use Rattle.read_drawings.specs.Contracted.{rest_groups}
use Rattle.read_drawings.proofs.Rests.{Going}
use Rattle.read_drawings.proofs.add_groups.Given as goal

abbrev pub invariant-loop-point : goal.invariant-loop-point
invariant-loop-point l =
    (p : Plan) → Is p l.initial.d →
    Going l.style l.lines.file.now l.lines.at l.total (rest_groups l.style l.lines.file.now l.lines.at l.total l.initial.d.counts p) l.d × (l._point ≡ l.d.counts.k) × (l.d.counts.n ≡ l.initial.d.counts.n)
