-- The look-up on the lent table is its own.
use Rattle.std.proofs.Common.{ap, ◌∙◌}
use Rattle.rules.specs.Lookups.{look_line}
use Rattle.answers.specs.Told.{told_line, line-told}
use Rattle.drawing.proofs.line_at.Goals as goal

pub returns : goal.returns
returns c = λ q h. ap told_line (c.look_line.ensures q (rw c.view.ensures.drawing h)) ∙ line-told (look_line q c.args.e)
