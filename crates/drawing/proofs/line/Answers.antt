-- The settled drawing is the same.
use Rattle.std.proofs.Common.{sym, subst}
use Rattle.store_laws.specs.Stored.{Is}
use Rattle.drawing.proofs.line.Goals as goal

pub returns : goal.returns
returns c = λ q h. c.line_at.ensures q (subst (Is q) (sym c.settle.ensures.0) h)
