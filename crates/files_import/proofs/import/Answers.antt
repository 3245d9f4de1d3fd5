-- What is printed of the bytes read is what the program prints of the file.
use Rattle.planar_rules.specs.Programs.{import_program}
use Rattle.printing_line.specs.Putting.{first_printed}
use Rattle.files.specs.Running.{written}
use Rattle.files_import.proofs.import.Goals as goal

pub returns : goal.returns
returns g c = written c.print.result (g.R.Read.remaining c.args.from.now) import_program _ _ c.in_ok-read.ensures.began (λ file began. first_printed (c.import_page-filled.ensures.prints file began)) c.print.ensures
