-- What the program's drawing is: the table and numbers of a drawing of the rules.
-- Here `Plan` is the drawing as the rules see it, `Drawing` the program's.
use Rattle.rules.specs.Points.{Drawing as Plan}
use Rattle.store_tables.specs.declared.Drawing.{Drawing}
use Rattle.store_tables.specs.Tables.{arrays_in}
use Rattle.store_laws.specs.Adding.{Holds, Ready}

-- d is the plan p, stored
abbrev pub Is : Plan → Drawing → Type 0
Is p d = Holds p (arrays_in d.table) d.counts

-- d is some plan, stored
abbrev pub Stored : Drawing → Type 0
Stored d = Ready (arrays_in d.table) d.counts
