-- "What demand 3 means": the words of the promise. Differences are compared as sums.
use Rattle.std.specs.Prelude.{ℕ, ◌+◌, ◌-◌, ◌*◌, Bool, not, ◌&&◌, ◌||◌, List, [], ◌∷◌, length, leb, ltb, eqb, if◌then◌else◌}
use Rattle.rules.specs.declared.Line.{Line}
use Rattle.rules.specs.declared.Place.{Place}
use Rattle.rules.specs.Basics.{keep, all_of, any_of}
use Rattle.rules.specs.Points.{Drawing, place_of, W}
use Rattle.rules.specs.Ports.{bend_place, has_port, port_owner, Piece, free_piece, pieces}
use Rattle.rules.specs.Meeting.{cross_plus, cross_minus, meet, same_place, meet_only_at}

-- the line ends at point p
abbrev pub ends_at : ℕ → Line → Bool
ends_at p l = eqb l.later p || eqb l.earlier p

-- its end that isn't p
abbrev pub across : ℕ → Line → ℕ
across p l = if eqb l.later p then l.earlier else l.later

-- ---- "Boundary lines join wi and w(i+1)." Their free pieces have slope 1 or -1, or no length.

abbrev pub joins : ℕ → ℕ → Line → Bool
joins p q l = ends_at p l && ends_at q l

-- dy = dx, dy = -dx
abbrev pub slope_one : Piece → Bool
slope_one a = eqb (a.from.x + a.to.y) (a.to.x + a.from.y)

abbrev pub slope_minus_one : Piece → Bool
slope_minus_one a = eqb (a.from.x + a.from.y) (a.to.x + a.to.y)

abbrev pub no_length : Piece → Bool
no_length a = same_place a.from a.to

abbrev pub slanted : Piece → Bool
slanted a = slope_one a || (slope_minus_one a || no_length a)

-- ---- the direction in which a line leaves its end p: from p towards a place

-- "A port is at the point that owns it, wherever it lies."
abbrev pub port_at : ℕ → Line → Bool
port_at p l = has_port l && eqb (port_owner l) p

-- "A line whose port is at the point leaves towards that port"; 1-2 towards its other end; else it leaves along its free piece,
-- and "if its free piece has no length, that is towards the port's owner".
abbrev pub towards : Drawing → ℕ → Line → Place
towards d p l =
    if port_at p l
    then bend_place d l
    else if not (has_port l) || no_length (free_piece d l)
    then place_of d (across p l)
    else bend_place d l

-- ---- "Free sectors at a point", for the direction (u,v) from p to q

pub data Sector : Type 0 where
  leftSector rightSector middleSector noSector : Sector

-- "left: u < 0, v ≤ 0, -v ≤ -u"
abbrev pub in_left : Place → Place → Bool
in_left p q = ltb q.x p.x && (leb q.y p.y && leb (p.y + q.x) (p.x + q.y))

-- "right: u > 0, v ≤ 0, -v ≤ u"
abbrev pub in_right : Place → Place → Bool
in_right p q = ltb p.x q.x && (leb q.y p.y && leb (p.x + p.y) (q.x + q.y))

-- "middle: v > 0, |u| ≤ v"
abbrev pub in_middle : Place → Place → Bool
in_middle p q = ltb p.y q.y && (leb (q.x + p.y) (p.x + q.y) && leb (p.x + p.y) (q.x + q.y))

abbrev pub sector : Place → Place → Sector
sector p q = if in_left p q then leftSector else if in_right p q then rightSector else if in_middle p q then middleSector else noSector

abbrev pub sector_of : Drawing → ℕ → Line → Sector
sector_of d p l = sector (place_of d p) (towards d p l)

-- "A line whose port isn't at the point (1-2 at both its ends) counts in the sector of the direction in which it leaves."
abbrev pub counts_at : ℕ → Line → Bool
counts_at p l = ends_at p l && not (port_at p l)

-- ---- "Two different lines have no point in common but the place of a point where both end."

abbrev pub shared_ends : Line → Line → List ℕ
shared_ends e f = keep (λ p. ends_at p f) (e.later ∷ e.earlier ∷ [])

-- a piece of e and a piece of f don't meet, or only at the place of a shared end
abbrev pub apart_pieces : Drawing → List ℕ → Piece → Piece → Bool
apart_pieces d shared a b =
    not (meet a.from a.to b.from b.to) ||
    any_of (λ p. meet_only_at (place_of d p) a.from a.to b.from b.to) shared

abbrev pub apart : Drawing → Line → Line → Bool
apart d e f = all_of (λ a. all_of (λ b. apart_pieces d (shared_ends e f) a b) (pieces d f)) (pieces d e)

-- ---- angles: two lines leave p towards q and towards r

-- "d counts the lines placed so far that end at the point."
abbrev pub degree : Drawing → ℕ → ℕ
degree d p = length (keep (ends_at p) d.lines)

-- the dot product of q - p and r - p is dot_plus - dot_minus
unfoldable pub dot_plus : Place → Place → Place → ℕ
dot_plus p q r = q.x * r.x + p.x * p.x + (q.y * r.y + p.y * p.y)

unfoldable pub dot_minus : Place → Place → Place → ℕ
dot_minus p q r = p.x * (q.x + r.x) + p.y * (q.y + r.y)

-- the size of the cross product: one of the differences is 0
unfoldable pub cross_size : Place → Place → Place → ℕ
cross_size p q r = (cross_plus p q r - cross_minus p q r) + (cross_minus p q r - cross_plus p q r)

-- "These stand at 90 degrees or more if the dot product is 0 or less; else (2d - 1) times the size of the cross product is at least the dot product."
unfoldable pub wide_apart : ℕ → Place → Place → Place → Bool
wide_apart deg p q r = leb (dot_plus p q r) (dot_minus p q r) || leb (dot_plus p q r) (dot_minus p q r + (2 * deg - 1) * cross_size p q r)

-- ---- the frame: "all points and bends" lie at x from 0 to W and at heights from 0 to W/2 - 1; "W/2 isn't rounded"

abbrev pub in_frame : Drawing → Place → Bool
in_frame d a = leb a.x (W d) && leb (2 * a.y + 2) (W d)
