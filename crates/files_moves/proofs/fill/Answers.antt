-- What is to be printed lies within the page, and is that of the words read.
use Rattle.files_moves.proofs.fill.Goals as goal

pub returns : goal.returns
returns g c = record { within = c.moves_page.ensures.within; printed = λ file b. (c.word.result.now, c.word-2.result.now, c.word-3.result.now, c.moves_page.ensures.prints file b) }
