-- `printing_line::put_line` meets its contract: the five parts of the line, one behind the other.
use Rattle.pages.specs.Pages.{grown_both}
use Rattle.printing_line.proofs.put_line.Goals as goal

pub returns : goal.returns
returns c = rw (← c.from.ensures, ← c.from-number.ensures) (grown_both c.text.ensures (grown_both c.put_decimal.ensures.exact (grown_both c.text-2.ensures (grown_both c.put_decimal-2.ensures.exact c.text-3.ensures))))
