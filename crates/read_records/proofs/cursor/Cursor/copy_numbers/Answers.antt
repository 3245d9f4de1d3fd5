-- `read_records::Cursor::copy_numbers` meets its contract: after i turns the first i numbers stand at the front of e.
use Rattle.std.proofs.Common.{arith, rules}
use Rattle.read_records.specs.Cursors.{copied}
use Rattle.read_records.proofs.cursor.Cursor.copy_numbers.Goals as goal

pub loop-i-preserved : goal.loop-i-preserved
loop-i-preserved c = record { same_length = search rules; copied = copied c.args.self.now.file.now c.loop-i.e c.args.self.now.at c.loop-i.i c.word_at.result (omega arith) (omega (arith, c.loop-i.invariant.same_length)) c.loop-i.invariant.copied c.word_at.ensures }
