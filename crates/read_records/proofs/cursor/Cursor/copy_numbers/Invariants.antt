-- `read_records::Cursor::copy_numbers` meets its contract: after i turns the first i numbers stand at the front of e.
use Rattle.std.specs.Prelude.{◌≡◌, length, take, drop}
use Rattle.rules.specs.Records.{words_in}
use Rattle.read_records.proofs.cursor.Cursor.copy_numbers.Given as goal

abbrev pub invariant-loop-i : goal.invariant-loop-i
invariant-loop-i l = record {
  same_length : length l.e ≡ length l.initial.e;
  copied : take l.i l.e ≡ words_in l.i (drop l.self.at l.self.file.now);
}
