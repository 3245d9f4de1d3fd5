-- `first_cut` meets its contract: no line before e is cut and ends at p.
use Rattle.std.proofs.Common.{ℕ, ◌<◌, ◌≡◌, false}
use Rattle.store_tables.specs.Tables.{arrays_in}
use Rattle.store_looking.specs.Cuts.{cut_at}
use Rattle.store_looking.proofs.first_cut.Given as goal

abbrev pub invariant-loop-e : goal.invariant-loop-e
invariant-loop-e l = (i : ℕ) → i < l.e → cut_at (arrays_in l.d.table) l.p i ≡ false
