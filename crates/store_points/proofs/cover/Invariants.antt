-- `store_points::cover` meets its contract: after i turns the entries 1 to i are covered.
use Rattle.std.specs.Prelude.{◌≡◌}
use Rattle.store_links.specs.Placing.{way}
use Rattle.store_tables.specs.Tables.{arrays_in}
use Rattle.store_points.specs.Stages.{covered}
use Rattle.store_points.proofs.cover.Given as goal

abbrev pub invariant-loop-i : goal.invariant-loop-i
invariant-loop-i l = (l.far ≡ way (arrays_in l.initial.table).gap l.e l.i) × (arrays_in l.table ≡ covered (arrays_in l.initial.table) l.e l.p l.v l.i)
