-- A net in arrays: n vertices and D places, where each list begins, in whose list each place stands, and which vertex it names.
use Rattle.std.specs.Prelude.{ℕ, ◌+◌, ◌<◌, ◌≤◌, List, get_or}
use Rattle.planar_rules.specs.PlanarCode.{Flat}
use Rattle.planar_sphere.specs.Flat.{Listed}

-- the rules' net
abbrev pub flat_of : ℕ → ℕ → List ℕ → List ℕ → List ℕ → Flat
flat_of n D off own nbr = record { n = n; D = D; off = λ v. get_or off v 0; own = λ d. get_or own d 0; nbr = λ d. get_or nbr d 0 }

-- what is known of it before the tests: the lists stand one behind another, and no array is too short for them
pub record Kept (f : Flat) : Type 0 where
  pub listed : Listed f
  pub some : 4 ≤ f.n
  pub byte : f.n ≤ 255
  pub few : f.D ≤ 1536
  pub offs : (v : ℕ) → v ≤ f.n → f.off v ≤ f.D
  pub rising : (v : ℕ) → v < f.n → f.off v ≤ f.off (v + 1)
  pub nbrs : (d : ℕ) → d < f.D → f.nbr d < f.n
