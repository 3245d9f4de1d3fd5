-- `printing_line::put_decimal` meets its contract: the kit's digits are those of the rules.
use Rattle.printing_line.specs.Numbers.{decimal_is}
use Rattle.printing_line.proofs.put_decimal.Goals as goal

pub returns-clause-exact : goal.returns-clause-exact
returns-clause-exact c = let k = c.decimal-count.ensures in rw (← decimal_is _ _ _ k.len k.digits) c.text.ensures
