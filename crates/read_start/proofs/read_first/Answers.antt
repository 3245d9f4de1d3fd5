-- `read_start::read_first` meets its contract: each return is a case of the record and its test.
use Rattle.rules.specs.Results.{handed_on}
use Rattle.read_start.proofs.Starts.{first_bad, first_count, first_in, counted}
use Rattle.read_start.proofs.read_first.Goals as goal

pub returns-in_err-entries : goal.returns-in_err-entries
returns-in_err-entries c = rw (handed_on c.from_residual.result _ c.from_residual.ensures.1) (first_bad c.args.here.now.file.now c.args.here.now.at _ _ c.in_err-entries.ensures)

pub returns-then-entries-ne0 : goal.returns-then-entries-ne0
returns-then-entries-ne0 c = rw c.at.ensures (first_count c.in_ok-entries.ensures c.if-entries-ne0.true)

pub returns : goal.returns
returns c = first_in (counted c.in_ok-entries.ensures c.if-entries-ne0.false) c.read_second.result (rw (c.moved_to.ensures.same_file, c.moved_to.ensures.place) at c.read_second.ensures)
