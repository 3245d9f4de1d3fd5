-- `store_placing::all_reach`: after i entries, `a` is the place of entry i, and the definition goes on behind it.
use Rattle.std.specs.Prelude.{suc, ◌+◌, ◌-◌, ◌*◌, ◌≤◌, ◌≡◌}
use Rattle.store_links.specs.Placing.{way, all_reach_from, inner_count}
use Rattle.store_tables.specs.Tables.{arrays_in}
use Rattle.store_placing.proofs.all_reach.Given as goal

abbrev pub invariant-loop-i : goal.invariant-loop-i
invariant-loop-i l = (l.a ≡ way (arrays_in l.table).gap l.e l.i + l.p.s1) × (l.a ≤ l.p.s1 + 65535 * l.i) × (all_reach_from l.p (arrays_in l.table).gap (arrays_in l.table).ys l.e 1 (inner_count l.e) ≡ all_reach_from l.p (arrays_in l.table).gap (arrays_in l.table).ys l.e (suc l.i) (inner_count l.e - l.i))
