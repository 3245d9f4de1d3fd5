-- `read_records::Cursor::records` meets its contract. The loop's invariant: the first i records are there.
use Rattle.read_records.proofs.Turns.{Passed}
use Rattle.read_records.proofs.cursor.Cursor.records.Given as goal

abbrev pub invariant-loop-i : goal.invariant-loop-i
invariant-loop-i l = Passed l.self.file.now l.mark l.size l.count l.self.at l.i
