-- `tool::over_eight` meets its contract: the literal 8.0 is 2 ^ 3.
use Rattle.std.proofs.Common.{refl}
use Rattle.std.specs.Float.Ieee.{of_bits}
use Rattle.tool.specs.Showing.{over_eight}
use Rattle.tool.proofs.over_eight.Goals as goal

pub returns : goal.returns
unfolding of_bits over_eight
returns c = refl
