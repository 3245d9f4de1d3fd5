-- "Cutter moves", over whole numbers: eighths of a millimetre; with document 02, wish 3.
use Rattle.std.specs.Prelude.{ℕ, ◌*◌, Bool, not, ◌&&◌, List, [], ◌∷◌, ◌++◌, length, get_or, ltb, eqb, if◌then◌else◌}
use Rattle.rules.specs.declared.Style.{Style}
use Rattle.rules.specs.declared.Kind.{Kind}
use Rattle.rules.specs.declared.Kind.TheVariants.{Guide, Plain, Feeder}
use Rattle.rules.specs.declared.Line.{Line}
use Rattle.rules.specs.declared.Place.{Place}
use Rattle.rules.specs.declared.Refusal.TheVariants.{BadTool, Unfinished, NoSuch}
use Rattle.rules.specs.Basics.{between}
use Rattle.rules.specs.Refusals.{Result, good, ◌>>◌, ◌>>=◌, refuse_if}
use Rattle.rules.specs.Styles.{of_bend}
use Rattle.rules.specs.Points.{Drawing, place_of}
use Rattle.rules.specs.Ports.{bend_place}

-- "a tool is three whole numbers of eighths of a millimetre"; 0 stands for any other f32
pub record Tool : Type 0 where
  pub pitch : ℕ
  pub depth : ℕ
  pub clearance : ℕ

-- "pitch 1 to 80, depth 1 to 40, clearance 1 to 80"
abbrev pub is_tool : Tool → Bool
is_tool t = between 1 80 t.pitch && (between 1 40 t.depth && between 1 80 t.clearance)

-- a move, to a place or to a height; `plunge z` goes to minus z
pub data Move : Type 0 where
  travel cut : ℕ → ℕ → Move
  plunge lift : ℕ → Move

-- "written coordinate times pitch"
abbrev pub eighths : ℕ → Tool → ℕ → ℕ
eighths s t c = s * c * t.pitch

-- "travel to its later point, plunge to minus depth, cut to the bend, cut to the earlier point, lift to clearance"
abbrev pub line_moves : Style → ℕ → Tool → Place → Place → Place → List Move
line_moves style s t later bend earlier =
    travel (eighths s t later.x) (eighths s t later.y) ∷
    plunge t.depth ∷
    (of_bend style (cut (eighths s t bend.x) (eighths s t bend.y) ∷ []) ++
    (cut (eighths s t earlier.x) (eighths s t earlier.y) ∷
    lift t.clearance ∷ []))

-- Document 02, wish 3: "a cut move whose target equals the place before it is left out". (x, y) is the place before these moves.
abbrev pub without_dwelling : ℕ → ℕ → List Move → List Move
without_dwelling x y [] = []
without_dwelling x y (travel a b ∷ ms) = travel a b ∷ without_dwelling a b ms
without_dwelling x y (cut a b ∷ ms) = (if eqb a x && eqb b y then [] else cut a b ∷ []) ++ without_dwelling a b ms
without_dwelling x y (plunge z ∷ ms) = plunge z ∷ without_dwelling x y ms
without_dwelling x y (lift z ∷ ms) = lift z ∷ without_dwelling x y ms

-- the moves of a line, each time that it is cut; they begin with a travel, so the place before them isn't asked
abbrev pub moves_once : Drawing → Tool → Line → List Move
moves_once d t l = without_dwelling 0 0 (line_moves d.style d.s t (place_of d l.later) (bend_place d l) (place_of d l.earlier))

-- "Each cut line gives" these moves. "A feeder gives its .. moves twice in succession."
abbrev pub repeated : Kind → List Move → List Move
repeated Guide once = []
repeated Plain once = once
repeated Feeder once = once ++ once

abbrev pub moves_of : Drawing → Tool → Line → List Move
moves_of d t l = repeated l.kind (moves_once d t l)

-- "Moves are numbered from 0 through the cut lines in line order", "over the shortened list".
abbrev pub moves_over : Drawing → Tool → List Line → List Move
moves_over d t [] = []
moves_over d t (l ∷ ls) = moves_of d t l ++ moves_over d t ls

abbrev pub all_moves : Drawing → Tool → List Move
all_moves d t = moves_over d t d.lines

-- all moves at once, in that order: 12, 22
abbrev pub given_moves : Drawing → Tool → Result (List Move)
given_moves d t = do
  refuse_if (not (is_tool t)) BadTool 0
  refuse_if (ltb d.k d.n) Unfinished 0
  good (all_moves d t)

-- "given one at a time by number. Order of refusals: 12, 22, 23."
abbrev pub move_at : Drawing → Tool → ℕ → Result Move
move_at d t i = do
  ms ← given_moves d t
  refuse_if (not (ltb i (length ms))) NoSuch 0
  good (get_or ms i (lift 0))
