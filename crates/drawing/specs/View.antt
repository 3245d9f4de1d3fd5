-- How the program's drawing came, and what an answer with one tells.
-- Here `Plan` is the drawing as the rules see it, `Drawing` the program's.
use Rattle.rules.specs.Refusals.{Answer, Told, told_with}
use Rattle.rules.specs.Points.{Drawing as Plan}
use Rattle.exchange.specs.Built.{Reached}
use Rattle.store_tables.specs.declared.Drawing.{Drawing}
use Rattle.store_laws.specs.Stored.{Is, Stored}

-- what an answer with a drawing says in document 01's numbers
abbrev pub told_drawing : Answer Drawing → Told (Unit {0})
told_drawing r = told_with (λ d. tt {0}) r

-- d came from opening and calls, or from an order file
pub record Came (d : Drawing) : Type 0 where
  pub plan : Plan
  pub reached : Reached plan
  pub is : Is plan d

-- It is stored.
pub stored : {d : Drawing} → Came d → Stored d
stored c = record { d = c.plan; holds = c.is }
