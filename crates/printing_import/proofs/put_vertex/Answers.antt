-- `printing_import::put_vertex` meets its contract: at most three digits and the line feed.
use Rattle.std.proofs.Common.{arith}
use Rattle.pages.specs.Pages.{grown_both}
use Rattle.printing_import.specs.Lines.{three-digits}
use Rattle.printing_import.proofs.put_vertex.Goals as goal

pub text-requires : goal.text-requires
text-requires c = let d = c.put_decimal.ensures.exact in omega (arith, d.at, d.size, c.requires, three-digits c.from.result (omega (arith, c.from.ensures)))

pub returns-clause-exact : goal.returns-clause-exact
returns-clause-exact c = rw (← c.from.ensures) (grown_both c.put_decimal.ensures.exact c.text.ensures)

pub returns-clause-within : goal.returns-clause-within
returns-clause-within c = omega (arith, c.put_decimal.ensures.exact.at, c.text.ensures.at, three-digits c.from.result (omega (arith, c.from.ensures)))
