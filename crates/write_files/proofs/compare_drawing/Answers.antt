-- `compare_drawing`: with its settled x the drawing is finished.
use Rattle.write_files.specs.Files.{finish}
use Rattle.write_files.proofs.compare_drawing.Goals as goal

pub compare_drawing-requires : goal.compare_drawing-requires
compare_drawing-requires c = record { d = c.requires.plan; finished = finish c.requires.whole c.requires.is c.settled-x.ensures }

pub returns : goal.returns
returns c = λ q w h. c.compare_drawing.ensures q (finish w h c.settled-x.ensures)
