-- The look-up on the lent table is its own.
use Rattle.std.proofs.Common.{ap, ◌∙◌}
use Rattle.rules.specs.Lookups.{look_point}
use Rattle.answers.specs.Told.{told_point, point-told}
use Rattle.drawing.proofs.point_at.Goals as goal

pub returns : goal.returns
returns c = λ q h. ap told_point (c.look_point.ensures q (rw c.view.ensures.drawing h)) ∙ point-told (look_point q c.args.p)
