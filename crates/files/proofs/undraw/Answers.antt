-- What is printed of the bytes read is what the program prints of the file.
use Rattle.std.proofs.Common.{arith}
use Rattle.rules.specs.Output.{back_program}
use Rattle.printing_line.specs.Putting.{first_printed}
use Rattle.files.specs.Running.{written}
use Rattle.files.proofs.undraw.Goals as goal

pub returns : goal.returns
returns g c =
    written c.print.result (g.R.Read.remaining c.args.from.now) (back_program c.args.style) _ _ c.in_ok-read.ensures.began
    (λ file began. first_printed (c.undraw_page-filled.ensures.prints file 65536 (omega arith) began))
    c.print.ensures
