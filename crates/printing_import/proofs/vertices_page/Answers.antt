-- `printing_import::vertices_page` meets its contract: the bytes read are those that are judged, and the buffers have room for every net.
use Rattle.printing_import.specs.Finishing.{shown, prints-lines}
use Rattle.printing_import.proofs.vertices_page.Goals as goal

pub returns-clause-within : goal.returns-clause-within
returns-clause-within c = (c.finish_list.ensures _ _ _ _ (shown _ c.requires.0 c.requires.1 c.import-imported.ensures.imports)).fits

pub returns-clause-prints : goal.returns-clause-prints
returns-clause-prints c file began = prints-lines file began (c.finish_list.ensures _ _ _ _ (shown _ c.requires.0 c.requires.1 c.import-imported.ensures.imports))
