-- `printing::undraw_page` meets its contract: so many bytes of the file tell as much as the whole, and the page has room for the order file.
use Rattle.std.proofs.Common.{◌∙◌, ap}
use Rattle.rules.specs.DrawingFile.{order_back}
use Rattle.exchange.specs.FirstBytes.{first_bytes}
use Rattle.printing.specs.Finishing.{order-room}
use Rattle.printing.proofs.undraw_page.Goals as goal

pub returns-clause-within : goal.returns-clause-within
returns-clause-within c = (c.finish.ensures _ _ (order-room _ _ _ c.requires) c.undraw-written.ensures.wrote).fits

pub returns-clause-prints : goal.returns-clause-prints
returns-clause-prints c file size more began =
    let same = ap (order_back c.args.style) began.is ∙ first_bytes c.args.style size file more in
    rw (← same) (c.finish.ensures _ _ (order-room _ _ _ c.requires) c.undraw-written.ensures.wrote)
