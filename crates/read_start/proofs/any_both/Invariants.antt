-- `read_start::any_both` meets its contract. The loop's invariant: what is left to find is an entry from i on.
use Rattle.std.specs.Prelude.{◌≡◌, map, drop}
use Rattle.rules.specs.Basics.{any_of}
use Rattle.rules.specs.Entries.{read_entry, is_both}
use Rattle.rules.specs.Records.{words_in}
use Rattle.read_start.proofs.any_both.Given as goal

abbrev pub invariant-loop-i : goal.invariant-loop-i
invariant-loop-i l = any_of is_both (map read_entry (words_in l.count (drop l.entries.at l.entries.file.now))) ≡ any_of is_both (map read_entry (drop l.i (words_in l.count (drop l.entries.at l.entries.file.now))))
