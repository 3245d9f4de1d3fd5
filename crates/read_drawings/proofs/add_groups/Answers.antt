-- `add_groups` meets its contract: a group more, a refused one, and all of them.
use Rattle.std.proofs.Common.{◌∙◌, arith}
use Rattle.rules.specs.Results.{handed_on}
use Rattle.read_drawings.proofs.Rests.{going_on, stopped, all_added}
use Rattle.read_drawings.proofs.add_groups.Goals as goal

pub returns-in_err-add_group : goal.returns-in_err-add_group
returns-in_err-add_group c =
    rw (handed_on c.from_residual.result _ c.from_residual.ensures.1)
    (λ p h. let i = c.loop-point.invariant p h in stopped i.0 (omega (arith, i.1, i.2)) (rw c.in_err-add_group.was at c.add_group.ensures))

pub loop-point-preserved : goal.loop-point-preserved
loop-point-preserved c =
    let s = rw c.in_ok-add_group.was at c.add_group.ensures in
    λ p h.
    let i = c.loop-point.invariant p h in
    let b = (s i.0.plan i.0.is).behind_it in
    (going_on i.0 (omega (arith, i.1, i.2)) s, omega (arith, b.k, i.1), b.n ∙ i.2)

pub returns : goal.returns
returns c = λ p h. let i = c.loop-point.invariant p h in all_added i.0 (omega (arith, i.1, i.2))
