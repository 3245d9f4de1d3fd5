-- WISH 3, WHICH CUTS ARE LEFT OUT. In a one-bend drawing a line gives five moves each time that it is cut, or four: where its free piece has no length, or where it has no port, as line 1-2. A straight line gives four.
-- Every word is a definition of `rules`.
use Rattle.std.specs.Prelude.{ℕ, ◌≡◌, Bool, not, ◌&&◌, ◌||◌, if◌then◌else◌}
use Rattle.rules.specs.declared.Style.{Style}
use Rattle.rules.specs.declared.Style.TheVariants.{OneBend, Straight}
use Rattle.rules.specs.declared.Line.{Line}
use Rattle.rules.specs.Points.{Drawing, place_of}
use Rattle.rules.specs.Ports.{bend_place, has_port, free_piece}
use Rattle.rules.specs.Meeting.{same_place}
use Rattle.rules.specs.Demand.{no_length, port_at}

-- what is left out of a line's two cuts: the cut to the bend where the bend is at a port of the earlier point and the free piece has no length;
-- the cut to the earlier point where the bend is at a port of the later point and the free piece has no length, and where there is no port
pub record LeftOut (d : Drawing) (l : Line) : Type 0 where
  pub to_bend : same_place (bend_place d l) (place_of d l.later) ≡ (port_at l.earlier l && no_length (free_piece d l))
  pub to_end : same_place (place_of d l.earlier) (bend_place d l) ≡ (not (has_port l) || (port_at l.later l && no_length (free_piece d l)))

-- a line of a one-bend drawing has a cut that dwells
abbrev pub dwells : Drawing → Line → Bool
dwells d l = not (has_port l) || no_length (free_piece d l)

-- how many moves a line gives, each time that it is cut
abbrev pub moves_by : Style → Drawing → Line → ℕ
moves_by OneBend d l = if dwells d l then 4 else 5
moves_by Straight d l = 4
