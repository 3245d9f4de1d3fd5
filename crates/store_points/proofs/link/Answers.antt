-- The columns of the new point and of its neighbours.
use Rattle.std.proofs.Common.{ap, ◌∙◌}
use Rattle.rules.specs.Styles.{taken}
use Rattle.store_tables.specs.declared.Point.{Point}
use Rattle.store_tables.specs.Tables.{arrays_in}
use Rattle.store_points.proofs.Linking.{left, right, all_linked}
use Rattle.store_points.proofs.link.Goals as goal

pub returns-clause-arrays : goal.returns-clause-arrays
returns-clause-arrays c =
    let x = c.args in
    all_linked x.style (arrays_in x.table.now) x.v x.wl x.wr x.p c.put.ensures
    (c.put-2.ensures ∙ left _ x.wl c.point-3.ensures _ _)
    (c.put-3.ensures ∙ right _ x.wr c.point-4.ensures _ _)
    (c.taken-rights.ensures ∙ ap (λ (q : Point). taken x.style q.dr) c.point.ensures)
    (c.taken-lefts.ensures ∙ ap (λ (q : Point). taken x.style q.dl) c.point-2.ensures)
