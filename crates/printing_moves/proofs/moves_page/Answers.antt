-- `printing_moves::moves_page` meets its contract: the bytes read are those that are judged, and the words' tool is the rules'.
use Rattle.printing_moves.specs.Paging.{prints}
use Rattle.printing_moves.proofs.moves_page.Goals as goal

pub returns-clause-within : goal.returns-clause-within
returns-clause-within c = c.tool_page.ensures.fits

pub returns-clause-prints : goal.returns-clause-prints
returns-clause-prints c file began = prints c.args.style c.words_tool-t.result c.words_tool-t.ensures file began c.tool_page.ensures
