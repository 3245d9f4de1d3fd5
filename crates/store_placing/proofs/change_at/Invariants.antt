-- `store_placing::change_at`: after the entries passed, `a` is the place of the last of them, and the definition goes on behind it.
use Rattle.std.specs.Prelude.{suc, ◌+◌, ◌-◌, ◌*◌, ◌≤◌, ◌≡◌}
use Rattle.store_links.specs.Placing.{way, change_from, inner_count}
use Rattle.store_tables.specs.Tables.{arrays_in}
use Rattle.store_placing.proofs.change_at.Given as goal

abbrev pub invariant-scan : goal.invariant-scan
invariant-scan l = (l.passed ≤ inner_count l.e) × (l.a ≡ way (arrays_in l.table).gap l.e l.passed + l.p.s1) × (l.a ≤ l.p.s1 + 65535 * l.passed) × (change_from l.p (arrays_in l.table).gap (arrays_in l.table).ys l.e 1 (inner_count l.e) ≡ change_from l.p (arrays_in l.table).gap (arrays_in l.table).ys l.e (suc l.passed) (inner_count l.e - l.passed))

abbrev pub decreases-scan : goal.decreases-scan
decreases-scan l = inner_count l.e - l.passed
