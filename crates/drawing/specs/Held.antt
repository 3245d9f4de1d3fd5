-- A stored drawing is one drawing of the rules, and that one keeps the promise of its style and is exact.
use Rattle.std.specs.Prelude.{◌≡◌}
use Rattle.rules.specs.Points.{Drawing as Plan}
use Rattle.promise.specs.Promise.{Promised}
use Rattle.promise.specs.Exact.{ExactBy}
use Rattle.exchange.specs.Kept.{reached-keeps, reached-exact}
use Rattle.store_links.specs.declared.Counts.{Counts}
use Rattle.store_links.specs.Arrays.{Arrays}
use Rattle.store_laws.specs.Adding.{Holds}
use Rattle.store_laws.specs.Stored.{Is}
use Rattle.store_tables.specs.declared.Drawing.{Drawing}
use Rattle.store_settling.specs.One.{stored_one}
use Rattle.drawing.specs.View.{Came}

-- Arrays and numbers hold one drawing of the rules at most.
pub holds_one : {p q : Plan} {a : Arrays} {c : Counts} → Holds p a c → Holds q a c → p ≡ q
holds_one h g = stored_one h.standing g.standing h.stores g.stores

-- So the program's drawing is one drawing of the rules at most.
pub is_one : {p q : Plan} (d : Drawing) → Is p d → Is q d → p ≡ q
is_one d h g = holds_one h g

-- One that came from opening and calls, or from a file, is exactly one.
pub came_one : (d : Drawing) (c : Came d) (p : Plan) → Is p d → p ≡ c.plan
came_one d c p h = is_one d h c.is

-- And that one keeps the promise of its style.
pub came-keeps : (d : Drawing) (c : Came d) → Promised c.plan.style c.plan
came-keeps d c = reached-keeps c.plan c.reached

-- In it no subtraction of the rules truncates.
pub came-exact : (d : Drawing) (c : Came d) → ExactBy c.plan.style c.plan
came-exact d c = reached-exact c.plan c.reached
