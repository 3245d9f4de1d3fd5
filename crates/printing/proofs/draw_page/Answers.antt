-- `printing::draw_page` meets its contract: the bytes read are those that are judged, and the page has room for the drawing file.
use Rattle.printing.specs.Finishing.{drawing-room}
use Rattle.printing.proofs.draw_page.Goals as goal

pub returns-clause-within : goal.returns-clause-within
returns-clause-within c = (c.finish.ensures _ _ (drawing-room _ _ _ c.requires) c.draw-written.ensures.wrote).fits

pub returns-clause-prints : goal.returns-clause-prints
returns-clause-prints c file began = rw (← began.is) (c.finish.ensures _ _ (drawing-room _ _ _ c.requires) c.draw-written.ensures.wrote)
