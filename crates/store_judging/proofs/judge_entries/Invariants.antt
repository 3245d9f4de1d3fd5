-- `store_judging::judge_entries` meets its contract. The loop's invariant: the answer is that of the entries from i on.
use Rattle.std.specs.Prelude.{◌≤◌, ◌≡◌, length, drop}
use Rattle.store_links.specs.Judging.{entries_pass}
use Rattle.store_tables.specs.Tables.{arrays_in}
use Rattle.store_judging.proofs.judge_entries.Given as goal

abbrev pub invariant-loop-i : goal.invariant-loop-i
invariant-loop-i l = (l.i ≤ length l.e) × (entries_pass (arrays_in l.d.table).owner l.d.counts.k 0 l.e ≡ entries_pass (arrays_in l.d.table).owner l.d.counts.k l.i (drop l.i l.e))
