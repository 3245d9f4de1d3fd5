-- Where a line bends, read from the arrays.
use Rattle.std.specs.Prelude.{ℕ, ◌+◌, ◌-◌, ◌<◌, ◌≤◌, ◌≡◌, List, length}
use Rattle.rules.specs.declared.Place.{Place}
use Rattle.rules.specs.declared.Bend.{Bend}
use Rattle.rules.specs.declared.Bend.TheVariants.{Left, Right, Middle, NoBend}
use Rattle.rules.specs.Points.{at}
use Rattle.store_links.specs.Arrays.{Arrays, at_point}

-- `bend_of` of the rules, over lists: a left or right port of the earlier point, a middle port of the later one, or the earlier point itself
abbrev pub bend_in : List ℕ → Arrays → ℕ → ℕ → Bend → Place
bend_in xs a later earlier (Left j) = at (at_point xs earlier - (at_point a.dls earlier + 1)) (at_point a.ys earlier + j)
bend_in xs a later earlier (Right j) = at (at_point xs earlier + at_point a.drs earlier + 1) (at_point a.ys earlier + j)
bend_in xs a later earlier (Middle i) = at (at_point xs later + i - at_point a.hs later) (at_point a.ys later - at_point a.hs later)
bend_in xs a later earlier NoBend = at (at_point xs earlier) (at_point a.ys earlier)

-- the port is one of those that its owner has, no port lies left of 0 or below it, and every sum fits 16 bits
abbrev pub PortFits : List ℕ → Arrays → ℕ → ℕ → Bend → Type 0
PortFits xs a later earlier (Left j) = (j ≤ at_point a.dls earlier) × (at_point a.dls earlier + 1 ≤ at_point xs earlier) × (at_point a.ys earlier + j < 65536)
PortFits xs a later earlier (Right j) = (j ≤ at_point a.drs earlier) × (at_point xs earlier + at_point a.drs earlier + 1 < 65536) × (at_point a.ys earlier + j < 65536)
PortFits xs a later earlier (Middle i) = (at_point xs later + i < 65536) × (at_point a.hs later ≤ at_point xs later + i) × (at_point a.hs later ≤ at_point a.ys later)
PortFits xs a later earlier NoBend = Unit {0}

-- what finding a bend asks
pub record Bendable (xs : List ℕ) (a : Arrays) (later earlier : ℕ) (b : Bend) : Type 0 where
  pub long : length xs ≡ 1024
  pub later_in_lem : (0 < later) × (later ≤ 1024)
  pub earlier_in_lem : (0 < earlier) × (earlier ≤ 1024)
  pub fits : PortFits xs a later earlier b
