-- `store_placing::way_over`: after i turns `far` is the way to entry i.
use Rattle.std.specs.Prelude.{◌*◌, ◌≤◌, ◌≡◌}
use Rattle.store_links.specs.Placing.{way}
use Rattle.store_tables.specs.Tables.{arrays_in}
use Rattle.store_placing.proofs.way_over.Given as goal

abbrev pub invariant-loop-i : goal.invariant-loop-i
invariant-loop-i l = (l.far ≡ way (arrays_in l.table).gap l.e l.i) × (l.far ≤ 65535 * l.i)
