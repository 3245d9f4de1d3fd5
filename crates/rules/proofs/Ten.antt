-- "Ten drawings and refusals": K1 to K10 as one theorem, by computing; the whole case; and a look at outputs, look-ups and moves.
use Rattle.std.specs.Prelude.{ℕ, ◌≡◌, refl, ◌&&◌, List, [], ◌∷◌, ◌++◌, map, get_or, eqb}
use Rattle.rules.specs.declared.Place.{Place}
use Rattle.rules.specs.declared.Bend.TheVariants.{NoBend}
use Rattle.rules.specs.declared.Kind.TheVariants.{Plain}
use Rattle.rules.specs.declared.Style.TheVariants.{OneBend}
use Rattle.rules.specs.declared.Refusal.TheVariants.{OutputShort, NoSuch, Unfinished, BadTool}
use Rattle.rules.specs.Basics.{keep}
use Rattle.rules.specs.Refusals.{good, refused, Told, gives, refused_with, told, told_answer}
use Rattle.rules.specs.Points.{Drawing, at, place_of, opening, opened}
use Rattle.rules.specs.Ports.{bend_place}
use Rattle.rules.specs.Adding.{call_tests, judge, placed_new, add_read}
use Rattle.rules.specs.Calls.{drawn, said}
use Rattle.rules.specs.OrderFile.{read_rest, read_points, read_order, write_order}
use Rattle.rules.specs.DrawingFile.{drawing_bytes, judge_rest, judge_lines, judge_drawing, read_drawing, draw_file, order_back}
use Rattle.rules.specs.Decimal.{digits}
use Rattle.rules.specs.Output.{fitted, filled, refusal_line, program, back_program}
use Rattle.rules.specs.Lookups.{look_point}
use Rattle.rules.specs.Moves.{Tool, move_at, cut}

-- the bend of the line a-b, from a later to an earlier point
abbrev pub bend_on : Drawing → ℕ → ℕ → Place
bend_on d a b = bend_place d (get_or (keep (λ l. eqb l.later a && eqb l.earlier b) d.lines) 0 (record { later = 0; earlier = 0; bend = NoBend; kind = Plain }))

-- the answers in document 01's numbers
abbrev pub told_of : ℕ → List (List ℕ) → List (Told (Unit {0}))
told_of n calls = map told_answer (said OneBend n calls)

abbrev pub K2 : Drawing
K2 = drawn OneBend 4 ((1 ∷ 3 ∷ 2 ∷ []) ∷ [])

abbrev pub K3 : Drawing
K3 = drawn OneBend 5 ((1 ∷ 3 ∷ []) ∷ [])

abbrev pub K4 : Drawing
K4 = drawn OneBend 5 ((1 ∷ 3 ∷ []) ∷ (1 ∷ 4 ∷ 3 ∷ 2 ∷ []) ∷ [])

pub ten :
    -- K1 opening
    (opened OneBend 3 ≡ good (opening OneBend 3)) × (place_of (opening OneBend 3) 1 ≡ at 0 0) × (place_of (opening OneBend 3) 2 ≡ at 6 0) × (place_of (opening OneBend 3) 3 ≡ at 3 2) × ((opening OneBend 3).boundary ≡ 1 ∷ 3 ∷ 2 ∷ []) ×
    -- K2 n = 4, add 1,3,2
    (place_of K2 1 ≡ at 0 0) × (place_of K2 2 ≡ at 8 0) × (place_of K2 3 ≡ at 4 2) × (place_of K2 4 ≡ at 4 3) × (bend_on K2 4 3 ≡ at 4 2) ×
    -- K3 n = 5, add 1,3
    (place_of K3 3 ≡ at 6 2) × (place_of K3 2 ≡ at 9 0) × (place_of K3 4 ≡ at 4 3) × (bend_on K3 4 3 ≡ at 4 3) ×
    -- K4 then add 1,4,3,2
    (place_of K4 2 ≡ at 12 0) × (place_of K4 3 ≡ at 7 2) × (place_of K4 4 ≡ at 5 3) × (place_of K4 5 ≡ at 6 5) ×
    (bend_on K4 5 1 ≡ at 4 3) × (bend_on K4 5 4 ≡ at 5 3) × (bend_on K4 5 3 ≡ at 6 3) × (bend_on K4 5 2 ≡ at 9 2) × (bend_on K4 3 2 ≡ at 9 1) ×
    -- K5 n = 4, add 1,3: 9. K6 n = 5, add 1,2: 8 at 1. K7 add 1: 5
    (told_of 4 ((1 ∷ 3 ∷ []) ∷ []) ≡ refused_with 9 0 ∷ []) × (told_of 5 ((1 ∷ 2 ∷ []) ∷ []) ≡ refused_with 8 1 ∷ []) × (told_of 5 ((1 ∷ []) ∷ []) ≡ refused_with 5 0 ∷ []) ×
    -- K8 n = 6, after 1,3,2 add 1,3,2: 7 at 1
    (told_of 6 ((1 ∷ 3 ∷ 2 ∷ []) ∷ (1 ∷ 3 ∷ 2 ∷ []) ∷ []) ≡ gives tt ∷ refused_with 7 1 ∷ []) ×
    -- K9 n = 1,024 opens; 2 and 1,025 give 3
    (opened OneBend 1024 ≡ good (opening OneBend 1024)) × (told (opened OneBend 2) ≡ refused_with 3 0) × (told (opened OneBend 1025) ≡ refused_with 3 0) ×
    -- K10 adding to a finished drawing: 21
    (told_of 4 ((1 ∷ 3 ∷ 2 ∷ []) ∷ (1 ∷ 4 ∷ 2 ∷ []) ∷ []) ≡ gives tt ∷ refused_with 21 0 ∷ [])
unfolding call_tests judge placed_new add_read
ten = (refl, refl, refl, refl, refl, refl, refl, refl, refl, refl, refl, refl, refl, refl, refl, refl, refl, refl, refl, refl, refl, refl, refl, refl, refl, refl, refl, refl, refl, refl, refl)

-- "Whole case, order file", "Drawing"
abbrev pub whole_order : List ℕ
whole_order = 0x48 ∷ 0x44 ∷ 0x00 ∷ 0x03 ∷ 0x50 ∷ 0x54 ∷ 0x00 ∷ 0x00 ∷ 0x50 ∷ 0x54 ∷ 0x00 ∷ 0x01 ∷ 0x00 ∷ 0x01 ∷ 0x50 ∷ 0x54 ∷ 0x00 ∷ 0x02 ∷ 0x00 ∷ 0x01 ∷ 0x00 ∷ 0x02 ∷ 0x45 ∷ 0x4E ∷ []

abbrev pub whole_drawing : List ℕ
whole_drawing = 0x44 ∷ 0x48 ∷ 0x00 ∷ 0x03 ∷ 0x00 ∷ 0x01 ∷ 0x00 ∷ 0x06 ∷ 0x00 ∷ 0x02 ∷ 0x50 ∷ 0x4F ∷ 0x00 ∷ 0x00 ∷ 0x00 ∷ 0x00 ∷ 0x50 ∷ 0x4F ∷ 0x00 ∷ 0x06 ∷ 0x00 ∷ 0x00 ∷ 0x50 ∷ 0x4F ∷ 0x00 ∷ 0x03 ∷ 0x00 ∷ 0x02 ∷ 0x4C ∷ 0x4E ∷ 0x00 ∷ 0x02 ∷ 0x00 ∷ 0x01 ∷ 0x00 ∷ 0x00 ∷ 0x00 ∷ 0x00 ∷ 0x00 ∷ 0x01 ∷ 0x4C ∷ 0x4E ∷ 0x00 ∷ 0x03 ∷ 0x00 ∷ 0x01 ∷ 0x00 ∷ 0x02 ∷ 0x00 ∷ 0x01 ∷ 0x00 ∷ 0x01 ∷ 0x4C ∷ 0x4E ∷ 0x00 ∷ 0x03 ∷ 0x00 ∷ 0x02 ∷ 0x00 ∷ 0x04 ∷ 0x00 ∷ 0x01 ∷ 0x00 ∷ 0x01 ∷ 0x45 ∷ 0x4E ∷ []

pub whole : (draw_file OneBend whole_order ≡ good whole_drawing) × (order_back OneBend whole_drawing ≡ good whole_order)
unfolding call_tests judge placed_new add_read read_rest read_points read_order write_order drawing_bytes judge_rest judge_lines judge_drawing read_drawing
whole = (refl, refl)

-- the two programs print these files, and `refused 10 at 66` where a byte stands behind the drawing
pub programs :
    (program OneBend whole_order ≡ whole_drawing) × (back_program OneBend whole_drawing ≡ whole_order) ×
    (back_program OneBend (whole_drawing ++ (0 ∷ [])) ≡ 114 ∷ 101 ∷ 102 ∷ 117 ∷ 115 ∷ 101 ∷ 100 ∷ 32 ∷ 49 ∷ 48 ∷ 32 ∷ 97 ∷ 116 ∷ 32 ∷ 54 ∷ 54 ∷ 10 ∷ [])
unfolding call_tests judge placed_new add_read read_rest read_points read_order write_order drawing_bytes judge_rest judge_lines judge_drawing read_drawing digits
programs = (refl, refl, refl)

abbrev tool : Tool
tool = record { pitch = 80; depth = 40; clearance = 1 }

-- 24 on an output one byte short, and bytes past the drawing that stay; `refused 11 at 147`; look-ups; moves with their refusals
pub others :
    (fitted (0 ∷ whole_order) (draw_file OneBend whole_order) ≡ refused OutputShort 0) ×
    (filled (whole_drawing ++ (9 ∷ 9 ∷ [])) (draw_file OneBend whole_order) ≡ whole_drawing ++ (9 ∷ 9 ∷ [])) ×
    (refusal_line 11 147 ≡ 114 ∷ 101 ∷ 102 ∷ 117 ∷ 115 ∷ 101 ∷ 100 ∷ 32 ∷ 49 ∷ 49 ∷ 32 ∷ 97 ∷ 116 ∷ 32 ∷ 49 ∷ 52 ∷ 55 ∷ 10 ∷ []) ×
    (look_point K4 5 ≡ good (at 6 5)) × (look_point K4 6 ≡ refused NoSuch 0) × (look_point K4 0 ≡ refused NoSuch 0) ×
    (move_at K4 tool 25 ≡ good (cut 320 240)) × (move_at K4 tool 42 ≡ refused NoSuch 0) × (move_at K3 tool 0 ≡ refused Unfinished 0) ×
    (move_at K3 (record { pitch = 81; depth = 40; clearance = 1 }) 0 ≡ refused BadTool 0)
unfolding call_tests judge placed_new add_read read_rest read_points read_order drawing_bytes digits
others = (refl, refl, refl, refl, refl, refl, refl, refl, refl, refl)
