-- What is known of every drawing that came from opening and calls: the invariant, and ranges of the counts.
use Rattle.std.specs.Prelude.{◌≤◌, ◌≡◌}
use Rattle.rules.specs.Points.{Drawing, m}
use Rattle.promise.specs.Sound.{Sound}

-- the counts: n from 3 to 1,024, at most n points placed, no more of them on the boundary, and three once all are placed
pub record Ranged (d : Drawing) : Type 0 where
  pub low : 3 ≤ d.n
  pub high : d.n ≤ 1024
  pub room : d.k ≤ d.n
  pub three : 3 ≤ d.k
  pub border : m d ≤ d.k
  pub closed : d.k ≡ d.n → m d ≡ 3

-- a drawing that came from opening and calls
pub record Standing (d : Drawing) : Type 0 where
  pub sound : Sound d
  pub ranged : Ranged d
