-- The drawing as opened.
use Rattle.std.proofs.Common.{arith}
use Rattle.drawing.specs.Opens.{opens}
use Rattle.drawing.proofs.open.Goals as goal

pub returns : goal.returns
returns c = opens c.args.style c.args.n (omega arith) (omega arith) c.as_opened.ensures
