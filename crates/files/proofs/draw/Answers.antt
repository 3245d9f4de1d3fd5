-- What is printed of the bytes read is what the program prints of the file.
use Rattle.rules.specs.Output.{program}
use Rattle.printing_line.specs.Putting.{first_printed}
use Rattle.files.specs.Running.{written}
use Rattle.files.proofs.draw.Goals as goal

pub returns : goal.returns
returns g c = written c.print.result (g.R.Read.remaining c.args.from.now) (program c.args.style) _ _ c.in_ok-read.ensures.began (λ file began. first_printed (c.draw_page-filled.ensures.prints file began)) c.print.ensures
