-- What is printed of the bytes read is what the program prints of the file.
use Rattle.files_moves.specs.Printing.{moves_written}
use Rattle.files_moves.proofs.moves.Goals as goal

pub returns : goal.returns
returns g c = moves_written c.print.result (g.R.Read.remaining c.args.from.now) c.args.style _ _ c.in_ok-read.ensures.began c.fill-filled.ensures.printed c.print.ensures
