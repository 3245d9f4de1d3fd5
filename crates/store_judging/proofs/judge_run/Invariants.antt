-- `store_judging::judge_run` meets its contract. The loop's invariant: the answer is that of the links from entry i on.
use Rattle.std.specs.Prelude.{◌-◌, ◌≤◌, ◌≡◌, drop}
use Rattle.store_links.specs.Judging.{links_pass, run_passes}
use Rattle.store_links.specs.Placing.{entry_point}
use Rattle.store_tables.specs.Tables.{arrays_in}
use Rattle.store_judging.proofs.judge_run.Given as goal

abbrev pub invariant-loop-i : goal.invariant-loop-i
invariant-loop-i l = (1 ≤ l.i) × (run_passes (arrays_in l.table).next l.e ≡ links_pass (arrays_in l.table).next l.i (entry_point l.e (l.i - 1)) (drop l.i l.e))
