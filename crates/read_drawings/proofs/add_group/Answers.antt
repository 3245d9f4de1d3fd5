-- `read_drawings::add_group` meets its contract: the group is taken, then added by one call.
use Rattle.std.proofs.Common.{ℕ, ◌+◌, ◌*◌, refl, ap, ◌∙◌, arith}
use Rattle.rules.specs.Refusals.{refusal_at}
use Rattle.read_drawings.proofs.Adds.{group-added, group-refused}
use Rattle.read_drawings.proofs.add_group.Goals as goal

pub returns-in-Ok : goal.returns-in-Ok
returns-in-Ok c =
    let m = c.moved_to-group.ensures in
    let taken = rw (m.same_file, m.place, c.line_size.ensures.value) at c.take_group-count.ensures in
    λ p h. group-added c.args.style c.args.lines.now.file.now _ _ _ _ _ _ _ c.requires.few (omega (arith, c.requires.most, c.take_group-count.auto.e)) refl taken p h (rw c.in-Ok.is at c.add.ensures)

pub returns-in-Err : goal.returns-in-Err
returns-in-Err c =
    let m = c.moved_to-group.ensures in
    let taken = rw (m.same_file, m.place, c.line_size.ensures.value) at c.take_group-count.ensures in
    λ p h. group-refused c.args.style c.args.lines.now.file.now _ _ _ _ _ _ _ c.requires.few (omega (arith, c.requires.most, c.take_group-count.auto.e)) refl taken p h (rw c.in-Err.is at c.add.ensures)
    _ (c.at.ensures ∙ ap (refusal_at _) (m.place ∙ ap (λ (n : ℕ). c.args.lines.now.at + n * c.args.d.now.counts.lines) c.line_size.ensures.value))
