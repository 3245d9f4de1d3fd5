-- Where no cut line was found among the stored ones there is none.
use Rattle.std.specs.Prelude.{ℕ, ◌≡◌, true, None, Ok}
use Rattle.rules.specs.Basics.{between}
use Rattle.rules.specs.Points.{Drawing as Plan}
use Rattle.rules.specs.Lookups.{LooksCut}
use Rattle.store_links.specs.declared.Counts.{Counts}
use Rattle.store_links.specs.Arrays.{Arrays}
use Rattle.store_laws.specs.Adding.{Holds}
use Rattle.answers.specs.Told.{told_cut}
use Rattle.store_looking.specs.Cuts.{FirstCut, finds}

-- Where none was found there is none.
pub finds_none : {q : Plan} {a : Arrays} {c : Counts} → Holds q a c → (p : ℕ) → FirstCut a c.lines p None → between 1 c.k p ≡ true → LooksCut q p (told_cut (Ok None))
finds_none h p f is = finds h p is None f
