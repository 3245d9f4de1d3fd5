-- "Ports".
use Rattle.std.specs.Prelude.{ℕ, ◌+◌, ◌-◌, Bool, true, false, List, [], ◌∷◌, if◌then◌else◌}
use Rattle.rules.specs.declared.Line.{Line}
use Rattle.rules.specs.declared.Place.{Place}
use Rattle.rules.specs.declared.Bend.{Bend}
use Rattle.rules.specs.declared.Bend.TheVariants.{Left, Right, Middle, NoBend}
use Rattle.rules.specs.Points.{Drawing, at, x_of, y_of, dl_of, dr_of, h_of, place_of}

-- "Right port j (1 to dr) of a point (x,y) is (x + dr + 1, y + j), with the dr of now."
abbrev pub right_port : Drawing → ℕ → ℕ → Place
right_port d p j = at (x_of d p + dr_of d p + 1) (y_of d p + j)

-- "Left port j (1 to dl) is (x - dl - 1, y + j)."
abbrev pub left_port : Drawing → ℕ → ℕ → Place
left_port d p j = at (x_of d p - (dl_of d p + 1)) (y_of d p + j)

-- "Middle port i (1 to 2h - 1) is (x - h + i, y - h)."
abbrev pub middle_port : Drawing → ℕ → ℕ → Place
middle_port d p i = at (x_of d p + i - h_of d p) (y_of d p - h_of d p)

-- "A line's bend is at a left, right or middle port, or it has none (line 1-2 only; its bend is written as the place of point 1)."
-- Line 1-2 has point 1 as its earlier end; in a straight drawing no line has a bend.
abbrev pub bend_of : Drawing → ℕ → ℕ → Bend → Place
bend_of d later earlier (Left j) = left_port d earlier j
bend_of d later earlier (Right j) = right_port d earlier j
bend_of d later earlier (Middle i) = middle_port d later i
bend_of d later earlier NoBend = place_of d earlier

abbrev pub bend_place : Drawing → Line → Place
bend_place d l = bend_of d l.later l.earlier l.bend

-- the line has a port; the port's owner, and the line's other end (of a line without a port: its earlier and its later end)
abbrev pub has_port : Line → Bool
has_port l = elim l.bend [ Left j ↦ true | Right j ↦ true | Middle i ↦ true | NoBend ↦ false ]

abbrev pub port_owner : Line → ℕ
port_owner l = elim l.bend [ Left j ↦ l.earlier | Right j ↦ l.earlier | Middle i ↦ l.later | NoBend ↦ l.earlier ]

abbrev pub other_end : Line → ℕ
other_end l = elim l.bend [ Left j ↦ l.later | Right j ↦ l.later | Middle i ↦ l.earlier | NoBend ↦ l.later ]

pub record Piece : Type 0 where
  pub from : Place
  pub to : Place

-- "The piece from the port's owner to the port is the port piece; the rest, up to the other end, is the free piece."
abbrev pub port_piece : Drawing → Line → Piece
port_piece d l = record { from = place_of d (port_owner l); to = bend_place d l }

abbrev pub free_piece : Drawing → Line → Piece
free_piece d l = record { from = bend_place d l; to = place_of d (other_end l) }

-- "Line 1-2 is one free piece", and so is every line of a straight drawing.
abbrev pub pieces : Drawing → Line → List Piece
pieces d l = if has_port l then port_piece d l ∷ free_piece d l ∷ [] else free_piece d l ∷ []
