-- The files of a drawing, finished or not.
use Rattle.std.specs.Prelude.{ℕ, ◌<◌, ◌≤◌, ◌≡◌, List, ltb}
use Rattle.std.proofs.Common.{arith, lt-ltb, le-ltb}
use Rattle.rules.specs.declared.Refusal.TheVariants.{Unfinished}
use Rattle.rules.specs.Refusals.{Result, good, refused, refuse_if, ◌>>◌}
use Rattle.rules.specs.Points.{Drawing as Plan}
use Rattle.rules.specs.OrderFile.{write_order}
use Rattle.store_tables.specs.declared.Drawing.{Drawing}
use Rattle.store_links.specs.declared.Counts.{Counts}
use Rattle.store_links.specs.Arrays.{Arrays}
use Rattle.store_laws.specs.Adding.{Holds}
use Rattle.store_laws.specs.Stored.{Is}
use Rattle.exchange.specs.Built.{Reached, Whole}
use Rattle.write_files.specs.Outputs.{Ended}

-- the order file of a drawing: 22 while k < n
abbrev pub whole_order : Plan → Result (List ℕ)
whole_order d = do
  refuse_if (ltb d.k d.n) Unfinished 0
  good (write_order d)

module _ {q : Plan} {a : Arrays} {c : Counts} (t : Holds q a c) where
  -- no file yet
  pub early : {A : Type 0} (wanted : Result A) → c.k < c.n → (refuse_if (ltb q.k q.n) Unfinished 0 >> wanted) ≡ refused Unfinished 0
  early wanted h = rw (lt-ltb q.k q.n (omega (arith, t.stores.k, t.stores.n)))

  -- the file
  pub late : {A : Type 0} (wanted : Result A) → c.n ≤ c.k → (refuse_if (ltb q.k q.n) Unfinished 0 >> wanted) ≡ wanted
  late wanted h = rw (le-ltb q.k q.n (omega (arith, t.stores.k, t.stores.n)))

  -- with all its points it is whole
  pub whole_late : Reached q → c.n ≤ c.k → Whole q
  whole_late r h = record { reached = r; full = omega (arith, t.stores.k, t.stores.n, t.standing.ranged.room) }

-- d is a drawing that calls or a file reached, stored
pub record IsReached (d : Drawing) : Type 0 where
  pub plan : Plan
  pub reached : Reached plan
  pub is : Is plan d

-- a finished one is whole
pub ended-late : {d : Drawing} → IsReached d → d.counts.n ≤ d.counts.k → Ended d
ended-late g h = record { plan = g.plan; whole = whole_late g.is g.reached h; is = g.is }
