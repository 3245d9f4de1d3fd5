-- `planar::import` meets its contract: the file is judged, and its net written where there is room.
use Rattle.planar_drawn.proofs.Theorem.{import_drawable}
use Rattle.planar.specs.Net.{taken_gives}
use Rattle.planar.specs.Outcome.{fills_as}
use Rattle.planar.proofs.import.Goals as goal

pub returns-clause-imports : goal.returns-clause-imports
returns-clause-imports c = fills_as (taken_gives (c.in_ok-judge.ensures.net c.args.file.now c.in_ok-net.ensures.net)) c.put_fitting.ensures

pub returns-clause-drawable : goal.returns-clause-drawable
returns-clause-drawable c = λ τ m h. import_drawable τ _ m h
