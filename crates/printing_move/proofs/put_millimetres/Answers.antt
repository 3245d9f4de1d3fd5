-- `printing_move::put_millimetres` meets its contract: the whole millimetres, and the eighths behind them.
use Rattle.std.proofs.Common.{arith}
use Rattle.rules.specs.MoveLines.{millimetres}
use Rattle.pages.specs.Pages.{grown_both}
use Rattle.printing_move.specs.Lines.{seven-digits}
use Rattle.printing_move.proofs.put_millimetres.Goals as goal

pub returns-clause-exact : goal.returns-clause-exact
unfolding millimetres
returns-clause-exact c = rw (← c.fraction.ensures.exact) (grown_both c.put_decimal.ensures.exact c.text.ensures)

pub returns-clause-within : goal.returns-clause-within
returns-clause-within c = omega (arith, c.put_decimal.ensures.exact.at, c.text.ensures.at, c.fraction.ensures.within, seven-digits c.args.n c.requires.0)
