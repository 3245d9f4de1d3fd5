-- `judge_long` meets its contract. The loop's invariant: 13, 6 and 7 are left from entry i on.
use Rattle.std.specs.Prelude.{◌≡◌, drop}
use Rattle.rules.specs.Records.{words_in}
use Rattle.store_links.specs.Judging.{entries_pass}
use Rattle.store_tables.specs.Tables.{arrays_in}
use Rattle.read_long.proofs.judge_long.Given as goal

abbrev pub invariant-loop-i : goal.invariant-loop-i
invariant-loop-i l =
    let words = words_in l.count (drop l.entries.at l.entries.file.now) in
    entries_pass (arrays_in l.d.table).owner l.d.counts.k 0 words ≡ entries_pass (arrays_in l.d.table).owner l.d.counts.k l.i (drop l.i words)
