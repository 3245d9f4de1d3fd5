-- "Points, boundary, owners": the drawing as the rules see it, and opening.
use Rattle.std.specs.Prelude.{ℕ, List, [], ◌∷◌, length, get_or, if◌then◌else◌}
use Rattle.rules.specs.declared.Style.{Style}
use Rattle.rules.specs.declared.Kind.{Kind}
use Rattle.rules.specs.declared.Kind.TheVariants.{Guide, Plain}
use Rattle.rules.specs.declared.Line.{Line}
use Rattle.rules.specs.declared.Place.{Place}
use Rattle.rules.specs.declared.Bend.TheVariants.{Left, Right, NoBend}
use Rattle.rules.specs.declared.Refusal.TheVariants.{OutOfRange}
use Rattle.rules.specs.Basics.{nth, between}
use Rattle.rules.specs.Refusals.{Result, good, refused}
use Rattle.rules.specs.Styles.{second_x, third_x, third_y, taken, bent}

-- "It is: n, the scale s, k, the boundary, the owner of each covered point, each point's place, dl and dr, and the lines in order."
-- The lists have one number for each placed point, in order. hs holds the h of a point's middle row, 0 for points 1 to 3. style says which of the two drawings it is.
pub record Drawing : Type 0 where
  pub style : Style
  pub n : ℕ
  pub s : ℕ
  pub k : ℕ
  pub boundary : List ℕ
  pub owners : List ℕ
  pub xs : List ℕ
  pub ys : List ℕ
  pub dls : List ℕ
  pub drs : List ℕ
  pub hs : List ℕ
  pub lines : List Line

-- the owner of point p; 0 where nobody owns it, which is where it stands on the boundary
abbrev pub owner_of : Drawing → ℕ → ℕ
owner_of d p = nth d.owners p 0

abbrev pub x_of : Drawing → ℕ → ℕ
x_of d p = nth d.xs p 0

abbrev pub y_of : Drawing → ℕ → ℕ
y_of d p = nth d.ys p 0

abbrev pub dl_of : Drawing → ℕ → ℕ
dl_of d p = nth d.dls p 0

abbrev pub dr_of : Drawing → ℕ → ℕ
dr_of d p = nth d.drs p 0

abbrev pub h_of : Drawing → ℕ → ℕ
h_of d p = nth d.hs p 0

abbrev pub at : ℕ → ℕ → Place
at a b = record { x = a; y = b }

abbrev pub place_of : Drawing → ℕ → Place
place_of d p = at (x_of d p) (y_of d p)

-- boundary point i, from 0: document 01's w1 is w 0
abbrev pub w : Drawing → ℕ → ℕ
w d i = get_or d.boundary i 0

-- how many points stand on the boundary
abbrev pub m : Drawing → ℕ
m d = length d.boundary

-- "W is the x of point 2."
abbrev pub W : Drawing → ℕ
W d = x_of d 2

-- line e, numbered from 0
abbrev pub line_at : Drawing → ℕ → Line
line_at d e = get_or d.lines e (record { later = 0; earlier = 0; bend = NoBend; kind = Guide })

-- "Opening places points 1, 2, 3 at (0,0), (6,0), (3,2), boundary 1, 3, 2. After opening, dr of point 1 and dl of point 2 are 1."
-- "Line 1-2 without a port, 3-1 at right port 1 of point 1, 3-2 at left port 1 of point 2", each of its kind. The straight drawing starts alike, without ports.
abbrev pub start : Style → ℕ → ℕ → Kind → Kind → Kind → Drawing
start style n s kind12 kind31 kind32 =
    record {
      style = style;
      n = n;
      s = s;
      k = 3;
      boundary = 1 ∷ 3 ∷ 2 ∷ [];
      owners = 0 ∷ 0 ∷ 0 ∷ [];
      xs = 0 ∷ second_x style ∷ third_x style ∷ [];
      ys = 0 ∷ 0 ∷ third_y style ∷ [];
      dls = 0 ∷ taken style 0 ∷ 0 ∷ [];
      drs = taken style 0 ∷ 0 ∷ 0 ∷ [];
      hs = 0 ∷ 0 ∷ 0 ∷ [];
      lines =
          record { later = 2; earlier = 1; bend = NoBend; kind = kind12 } ∷
          record { later = 3; earlier = 1; bend = bent style (Right 1); kind = kind31 } ∷
          record { later = 3; earlier = 2; bend = bent style (Left 1); kind = kind32 } ∷ [];
    }

-- "A drawing opened by a call has s = 1 and its first three lines cut", once.
abbrev pub opening : Style → ℕ → Drawing
opening style n = start style n 1 Plain Plain Plain

-- "A drawing is opened for n points, n from 3 to 1,024."
abbrev pub fewest_points : ℕ
fewest_points = 3

abbrev pub most_points : ℕ
most_points = 1024

abbrev pub opened : Style → ℕ → Result Drawing
opened style n = if between fewest_points most_points n then good (opening style n) else refused OutOfRange 0
