-- `printing_line::put_refusal` meets its contract: the line's page is filled from the start.
use Rattle.std.proofs.Common.{rules}
use Rattle.printing_line.specs.Pages.{printed}
use Rattle.printing_line.proofs.put_refusal.Goals as goal

pub returns : goal.returns
returns c = printed c.new-line.ensures.at c.new-line.ensures.bytes c.put_line.ensures (search rules)
