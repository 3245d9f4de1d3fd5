-- `tool::whole_part` meets its contract: a whole number that is an f32 lies in the range of the cast.
use Rattle.std.proofs.Common.{◌∙◌}
use Rattle.tool.proofs.Wholes.{cast_is}
use Rattle.tool.proofs.whole_part.Goals as goal

pub returns : goal.returns
returns c k h v = c.saturating_f32_to_u64.ensures ∙ cast_is c.args.x k h v
