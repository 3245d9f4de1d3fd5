-- "Look-ups give, in grid units, a point's place, a line's ends, bend and cut flag" (its kind now), "and some cut line ending at a given point"; 23 where there is no such point or line.
use Rattle.std.specs.Prelude.{ℕ, ◌<◌, ◌≡◌, Bool, true, false, not, ◌&&◌, length, ltb, if◌then◌else◌}
use Rattle.rules.specs.declared.Place.{Place}
use Rattle.rules.specs.declared.Refusal.TheVariants.{NoSuch}
use Rattle.rules.specs.Basics.{between, lowest}
use Rattle.rules.specs.Refusals.{Result, good, Told, gives, refused_with, ◌>>◌, refuse_if}
use Rattle.rules.specs.Entries.{is_cut}
use Rattle.rules.specs.Styles.{LineSeen, seen}
use Rattle.rules.specs.Points.{Drawing, place_of, line_at}
use Rattle.rules.specs.Ports.{bend_place}
use Rattle.rules.specs.Demand.{ends_at}

-- a point's place
abbrev pub look_point : Drawing → ℕ → Result Place
look_point d p = do
  refuse_if (not (between 1 d.k p)) NoSuch 0
  good (place_of d p)

-- a line with its ends, bend and kind, and where its bend lies; a straight one has no bend
abbrev pub look_line : Drawing → ℕ → Result LineSeen
look_line d e = do
  refuse_if (not (ltb e (length d.lines))) NoSuch 0
  good (seen d.style (line_at d e) (bend_place d (line_at d e)))

-- line e is a cut line that ends at p: "a feeder is a cut line"
pub record CutLineAt (d : Drawing) (p e : ℕ) : Type 0 where
  pub there : e < length d.lines
  pub cuts : is_cut (line_at d e).kind ≡ true
  pub ends : ends_at p (line_at d e) ≡ true

-- what looking for a cut line gives: its number, or that there is none
pub data Sought : Type 0 where
  cut_line : ℕ → Sought
  no_cut_line : Sought

-- "some cut line ending at a given point, or none exactly if there is none; which one is free"
abbrev pub IsSought : Drawing → ℕ → Sought → Type 0
IsSought d p (cut_line e) = CutLineAt d p e
IsSought d p no_cut_line = (e : ℕ) → CutLineAt d p e → ⊥

-- the only answer that document 01 leaves open, by its properties
abbrev pub LooksCut : Drawing → ℕ → Told Sought → Type 0
LooksCut d p (gives f) = (between 1 d.k p ≡ true) × IsSought d p f
LooksCut d p (refused_with r place) = (between 1 d.k p ≡ false) × (r ≡ 23) × (place ≡ 0)

-- ---- the cut line with the lowest number; no contract names it yet

-- line e is cut and ends at p
abbrev pub cut_at : Drawing → ℕ → ℕ → Bool
cut_at d p e = is_cut (line_at d e).kind && ends_at p (line_at d e)

-- line e of so many; past the last one there is none
abbrev pub sought_in : ℕ → ℕ → Sought
sought_in count e = if ltb e count then cut_line e else no_cut_line

-- the lowest of them
abbrev pub look_cut : Drawing → ℕ → Result Sought
look_cut d p = do
  refuse_if (not (between 1 d.k p)) NoSuch 0
  good (sought_in (length d.lines) (lowest (cut_at d p) (length d.lines) 0))
