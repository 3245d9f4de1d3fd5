-- Worked cases of request 3 (`vectors-requests.txt`), by computing: a cut to where the cutter is, is left out. Moves in eighths of a millimetre.
use Rattle.std.specs.Prelude.{ℕ, ◌≡◌, refl, List, [], ◌∷◌, map, length}
use Rattle.rules.specs.declared.Style.TheVariants.{OneBend, Straight}
use Rattle.rules.specs.declared.Kind.TheVariants.{Plain}
use Rattle.rules.specs.declared.Bend.{Bend}
use Rattle.rules.specs.declared.Bend.TheVariants.{Left, Right, Middle}
use Rattle.rules.specs.declared.Refusal.TheVariants.{BadTool, Unfinished, NoSuch}
use Rattle.rules.specs.Refusals.{Result, good, refused, ◌>>=◌}
use Rattle.rules.specs.Styles.{LineSeen, with_bend}
use Rattle.rules.specs.Points.{Drawing, at}
use Rattle.rules.specs.Adding.{call_tests, judge, placed_new, add_read}
use Rattle.rules.specs.Calls.{drawn}
use Rattle.rules.specs.OrderFile.{read_rest, read_points, read_order}
use Rattle.rules.specs.Lookups.{look_line}
use Rattle.rules.specs.Moves.{Tool, travel, plunge, cut, lift, moves_of, all_moves, given_moves, move_at}

abbrev tool : ℕ → ℕ → ℕ → Tool
tool pitch depth clearance = record { pitch = pitch; depth = depth; clearance = clearance }

-- how many moves each line gives, and how many there are together
abbrev counts : Drawing → List ℕ
counts d = map (λ l. length (moves_of d (tool 8 8 8) l)) d.lines

abbrev together : Drawing → ℕ
together d = length (all_moves d (tool 8 8 8))

-- a plain line with its ends and bend, and the place of its bend
abbrev seen : ℕ → ℕ → Bend → ℕ → ℕ → LineSeen
seen later earlier bend x y = with_bend (record { later = later; earlier = earlier; bend = bend; kind = Plain }) (at x y)

-- n = 3: line 1-2 has its bend at point 1
abbrev three : Result Drawing
three = read_order OneBend (0x48 ∷ 0x44 ∷ 0x00 ∷ 0x03 ∷ 0x50 ∷ 0x54 ∷ 0x00 ∷ 0x00 ∷ 0x50 ∷ 0x54 ∷ 0x00 ∷ 0x01 ∷ 0x00 ∷ 0x01 ∷ 0x50 ∷ 0x54 ∷ 0x00 ∷ 0x02 ∷ 0x00 ∷ 0x01 ∷ 0x00 ∷ 0x02 ∷ 0x45 ∷ 0x4E ∷ [])

pub moved_three :
    ((three >>= λ d. given_moves d (tool 8 8 8)) ≡
    good (
    travel 48 0 ∷ plunge 8 ∷ cut 0 0 ∷ lift 8 ∷
    travel 24 16 ∷ plunge 8 ∷ cut 16 8 ∷ cut 0 0 ∷ lift 8 ∷
    travel 24 16 ∷ plunge 8 ∷ cut 32 8 ∷ cut 48 0 ∷ lift 8 ∷ [])) ×
    ((three >>= λ d. move_at d (tool 8 8 8) 13) ≡ good (lift 8)) ×
    ((three >>= λ d. move_at d (tool 8 8 8) 14) ≡ refused NoSuch 0)
unfolding call_tests judge placed_new add_read read_rest read_points read_order
moved_three = (refl, refl, refl)

-- n = 4: the bend of 4-3 is point 3 (middle port)
abbrev four : Result Drawing
four = read_order OneBend (0x48 ∷ 0x44 ∷ 0x00 ∷ 0x04 ∷ 0x50 ∷ 0x54 ∷ 0x00 ∷ 0x00 ∷ 0x50 ∷ 0x54 ∷ 0x00 ∷ 0x01 ∷ 0x00 ∷ 0x01 ∷ 0x50 ∷ 0x54 ∷ 0x00 ∷ 0x02 ∷ 0x00 ∷ 0x01 ∷ 0x00 ∷ 0x02 ∷ 0x50 ∷ 0x54 ∷ 0x00 ∷ 0x03 ∷ 0x00 ∷ 0x01 ∷ 0x00 ∷ 0x03 ∷ 0x00 ∷ 0x02 ∷ 0x45 ∷ 0x4E ∷ [])

pub moved_four :
    ((four >>= λ d. good (counts d)) ≡ good (4 ∷ 5 ∷ 5 ∷ 5 ∷ 4 ∷ 5 ∷ [])) × ((four >>= λ d. good (together d)) ≡ good 28) ×
    ((four >>= λ d. given_moves d (tool 2 3 5)) ≡
    good (
    travel 16 0 ∷ plunge 3 ∷ cut 0 0 ∷ lift 5 ∷
    travel 8 4 ∷ plunge 3 ∷ cut 6 2 ∷ cut 0 0 ∷ lift 5 ∷
    travel 8 4 ∷ plunge 3 ∷ cut 10 2 ∷ cut 16 0 ∷ lift 5 ∷
    travel 8 6 ∷ plunge 3 ∷ cut 6 4 ∷ cut 0 0 ∷ lift 5 ∷
    travel 8 6 ∷ plunge 3 ∷ cut 8 4 ∷ lift 5 ∷
    travel 8 6 ∷ plunge 3 ∷ cut 10 4 ∷ cut 16 0 ∷ lift 5 ∷ []))
unfolding call_tests judge placed_new add_read read_rest read_points read_order
moved_four = (refl, refl, refl)

-- n = 5: the bend of 4-3 is point 4 (left port), that of 5-4 too (middle port)
abbrev five : Result Drawing
five = read_order OneBend (0x48 ∷ 0x44 ∷ 0x00 ∷ 0x05 ∷ 0x50 ∷ 0x54 ∷ 0x00 ∷ 0x00 ∷ 0x50 ∷ 0x54 ∷ 0x00 ∷ 0x01 ∷ 0x00 ∷ 0x01 ∷ 0x50 ∷ 0x54 ∷ 0x00 ∷ 0x02 ∷ 0x00 ∷ 0x01 ∷ 0x00 ∷ 0x02 ∷ 0x50 ∷ 0x54 ∷ 0x00 ∷ 0x02 ∷ 0x00 ∷ 0x01 ∷ 0x00 ∷ 0x03 ∷ 0x50 ∷ 0x54 ∷ 0x00 ∷ 0x04 ∷ 0x00 ∷ 0x01 ∷ 0x00 ∷ 0x04 ∷ 0x00 ∷ 0x03 ∷ 0x00 ∷ 0x02 ∷ 0x45 ∷ 0x4E ∷ [])

pub moved_five :
    ((five >>= λ d. look_line d 4) ≡ good (seen 4 3 (Left 1) 5 3)) ×
    ((five >>= λ d. look_line d 6) ≡ good (seen 5 4 (Middle 1) 5 3)) ×
    ((five >>= λ d. look_line d 7) ≡ good (seen 5 3 (Middle 2) 6 3)) ×
    ((five >>= λ d. good (counts d)) ≡ good (4 ∷ 5 ∷ 5 ∷ 5 ∷ 4 ∷ 5 ∷ 4 ∷ 5 ∷ 5 ∷ [])) × ((five >>= λ d. good (together d)) ≡ good 42) ×
    ((five >>= λ d. move_at d (tool 8 8 8) 40) ≡ good (cut 96 0)) ×
    ((five >>= λ d. move_at d (tool 8 8 8) 41) ≡ good (lift 8)) ×
    ((five >>= λ d. move_at d (tool 8 8 8) 42) ≡ refused NoSuch 0)
unfolding call_tests judge placed_new add_read read_rest read_points read_order
moved_five = (refl, refl, refl, refl, refl, refl, refl, refl)

-- n = 5: the bend of 4-3 is point 4 (right port)
abbrev five_too : Result Drawing
five_too = read_order OneBend (0x48 ∷ 0x44 ∷ 0x00 ∷ 0x05 ∷ 0x50 ∷ 0x54 ∷ 0x00 ∷ 0x00 ∷ 0x50 ∷ 0x54 ∷ 0x00 ∷ 0x01 ∷ 0x00 ∷ 0x01 ∷ 0x50 ∷ 0x54 ∷ 0x00 ∷ 0x02 ∷ 0x00 ∷ 0x01 ∷ 0x00 ∷ 0x02 ∷ 0x50 ∷ 0x54 ∷ 0x00 ∷ 0x02 ∷ 0x00 ∷ 0x03 ∷ 0x00 ∷ 0x02 ∷ 0x50 ∷ 0x54 ∷ 0x00 ∷ 0x04 ∷ 0x00 ∷ 0x01 ∷ 0x00 ∷ 0x03 ∷ 0x00 ∷ 0x04 ∷ 0x00 ∷ 0x02 ∷ 0x45 ∷ 0x4E ∷ [])

pub moved_five_too :
    ((five_too >>= λ d. look_line d 3) ≡ good (seen 4 3 (Right 1) 6 3)) ×
    ((five_too >>= λ d. good (counts d)) ≡ good (4 ∷ 5 ∷ 5 ∷ 4 ∷ 5 ∷ 5 ∷ 5 ∷ 4 ∷ 5 ∷ [])) × ((five_too >>= λ d. good (together d)) ≡ good 42)
unfolding call_tests judge placed_new add_read read_rest read_points read_order
moved_five_too = (refl, refl, refl)

-- K4 with feeders and guides
abbrev marked_order : List ℕ
marked_order = 0x48 ∷ 0x44 ∷ 0x00 ∷ 0x05 ∷ 0x50 ∷ 0x54 ∷ 0x00 ∷ 0x00 ∷ 0x50 ∷ 0x54 ∷ 0x00 ∷ 0x01 ∷ 0x40 ∷ 0x01 ∷ 0x50 ∷ 0x54 ∷ 0x00 ∷ 0x02 ∷ 0x80 ∷ 0x01 ∷ 0x40 ∷ 0x02 ∷ 0x50 ∷ 0x54 ∷ 0x00 ∷ 0x02 ∷ 0x40 ∷ 0x01 ∷ 0x00 ∷ 0x03 ∷ 0x50 ∷ 0x54 ∷ 0x00 ∷ 0x04 ∷ 0x00 ∷ 0x01 ∷ 0x40 ∷ 0x04 ∷ 0x80 ∷ 0x03 ∷ 0x00 ∷ 0x02 ∷ 0x45 ∷ 0x4E ∷ []

abbrev marked : Result Drawing
marked = read_order OneBend marked_order

pub moved_marked :
    ((marked >>= λ d. good (counts d)) ≡ good (8 ∷ 0 ∷ 10 ∷ 10 ∷ 4 ∷ 5 ∷ 8 ∷ 0 ∷ 5 ∷ [])) × ((marked >>= λ d. good (together d)) ≡ good 50) ×
    ((marked >>= λ d. given_moves d (tool 8 8 8)) ≡
    good (
    travel 96 0 ∷ plunge 8 ∷ cut 0 0 ∷ lift 8 ∷
    travel 96 0 ∷ plunge 8 ∷ cut 0 0 ∷ lift 8 ∷
    travel 56 16 ∷ plunge 8 ∷ cut 72 8 ∷ cut 96 0 ∷ lift 8 ∷
    travel 56 16 ∷ plunge 8 ∷ cut 72 8 ∷ cut 96 0 ∷ lift 8 ∷
    travel 40 24 ∷ plunge 8 ∷ cut 32 16 ∷ cut 0 0 ∷ lift 8 ∷
    travel 40 24 ∷ plunge 8 ∷ cut 32 16 ∷ cut 0 0 ∷ lift 8 ∷
    travel 40 24 ∷ plunge 8 ∷ cut 56 16 ∷ lift 8 ∷
    travel 48 40 ∷ plunge 8 ∷ cut 32 24 ∷ cut 0 0 ∷ lift 8 ∷
    travel 48 40 ∷ plunge 8 ∷ cut 40 24 ∷ lift 8 ∷
    travel 48 40 ∷ plunge 8 ∷ cut 40 24 ∷ lift 8 ∷
    travel 48 40 ∷ plunge 8 ∷ cut 72 16 ∷ cut 96 0 ∷ lift 8 ∷ []))
unfolding call_tests judge placed_new add_read read_rest read_points read_order
moved_marked = (refl, refl, refl)

-- n = 4, scale 2: coordinates are the written ones
abbrev scaled : Result Drawing
scaled = read_order OneBend (0x48 ∷ 0x44 ∷ 0x00 ∷ 0x04 ∷ 0x53 ∷ 0x43 ∷ 0x00 ∷ 0x02 ∷ 0x50 ∷ 0x54 ∷ 0x00 ∷ 0x00 ∷ 0x50 ∷ 0x54 ∷ 0x00 ∷ 0x01 ∷ 0x00 ∷ 0x01 ∷ 0x50 ∷ 0x54 ∷ 0x00 ∷ 0x02 ∷ 0x00 ∷ 0x01 ∷ 0x00 ∷ 0x02 ∷ 0x50 ∷ 0x54 ∷ 0x00 ∷ 0x03 ∷ 0x80 ∷ 0x01 ∷ 0x00 ∷ 0x03 ∷ 0x80 ∷ 0x02 ∷ 0x45 ∷ 0x4E ∷ [])

pub moved_scaled :
    ((scaled >>= λ d. given_moves d (tool 4 40 1)) ≡
    good (
    travel 64 0 ∷ plunge 40 ∷ cut 0 0 ∷ lift 1 ∷
    travel 32 16 ∷ plunge 40 ∷ cut 24 8 ∷ cut 0 0 ∷ lift 1 ∷
    travel 32 16 ∷ plunge 40 ∷ cut 40 8 ∷ cut 64 0 ∷ lift 1 ∷
    travel 32 24 ∷ plunge 40 ∷ cut 32 16 ∷ lift 1 ∷ []))
unfolding call_tests judge placed_new add_read read_rest read_points read_order
moved_scaled = refl

-- n = 7: ports change, all plain
abbrev seven : Result Drawing
seven = read_order OneBend (0x48 ∷ 0x44 ∷ 0x00 ∷ 0x07 ∷ 0x50 ∷ 0x54 ∷ 0x00 ∷ 0x00 ∷ 0x50 ∷ 0x54 ∷ 0x00 ∷ 0x01 ∷ 0x00 ∷ 0x01 ∷ 0x50 ∷ 0x54 ∷ 0x00 ∷ 0x02 ∷ 0x00 ∷ 0x01 ∷ 0x00 ∷ 0x02 ∷ 0x50 ∷ 0x54 ∷ 0x00 ∷ 0x02 ∷ 0x00 ∷ 0x01 ∷ 0x00 ∷ 0x03 ∷ 0x50 ∷ 0x54 ∷ 0x00 ∷ 0x02 ∷ 0x00 ∷ 0x01 ∷ 0x00 ∷ 0x04 ∷ 0x50 ∷ 0x54 ∷ 0x00 ∷ 0x04 ∷ 0x00 ∷ 0x05 ∷ 0x00 ∷ 0x04 ∷ 0x00 ∷ 0x03 ∷ 0x00 ∷ 0x02 ∷ 0x50 ∷ 0x54 ∷ 0x00 ∷ 0x04 ∷ 0x00 ∷ 0x01 ∷ 0x00 ∷ 0x05 ∷ 0x00 ∷ 0x06 ∷ 0x00 ∷ 0x02 ∷ 0x45 ∷ 0x4E ∷ [])

pub moved_seven :
    ((seven >>= λ d. good (counts d)) ≡ good (4 ∷ 5 ∷ 5 ∷ 5 ∷ 4 ∷ 5 ∷ 5 ∷ 5 ∷ 5 ∷ 5 ∷ 5 ∷ 5 ∷ 5 ∷ 4 ∷ 5 ∷ [])) × ((seven >>= λ d. good (together d)) ≡ good 72)
unfolding call_tests judge placed_new add_read read_rest read_points read_order
moved_seven = (refl, refl)

-- all guides: no move at all
abbrev guides : Result Drawing
guides = read_order OneBend (0x48 ∷ 0x44 ∷ 0x00 ∷ 0x04 ∷ 0x50 ∷ 0x54 ∷ 0x00 ∷ 0x00 ∷ 0x50 ∷ 0x54 ∷ 0x00 ∷ 0x01 ∷ 0x80 ∷ 0x01 ∷ 0x50 ∷ 0x54 ∷ 0x00 ∷ 0x02 ∷ 0x80 ∷ 0x01 ∷ 0x80 ∷ 0x02 ∷ 0x50 ∷ 0x54 ∷ 0x00 ∷ 0x03 ∷ 0x80 ∷ 0x01 ∷ 0x80 ∷ 0x03 ∷ 0x80 ∷ 0x02 ∷ 0x45 ∷ 0x4E ∷ [])

pub moved_guides :
    ((guides >>= λ d. good (counts d)) ≡ good (0 ∷ 0 ∷ 0 ∷ 0 ∷ 0 ∷ 0 ∷ [])) × ((guides >>= λ d. good (together d)) ≡ good 0) ×
    ((guides >>= λ d. move_at d (tool 8 8 8) 0) ≡ refused NoSuch 0)
unfolding call_tests judge placed_new add_read read_rest read_points read_order
moved_guides = (refl, refl, refl)

-- the same, straight: nothing is ever left out
abbrev straight : Result Drawing
straight = read_order Straight marked_order

pub moved_unbent :
    ((straight >>= λ d. good (counts d)) ≡ good (8 ∷ 0 ∷ 8 ∷ 8 ∷ 4 ∷ 4 ∷ 8 ∷ 0 ∷ 4 ∷ [])) × ((straight >>= λ d. good (together d)) ≡ good 44)
unfolding call_tests judge placed_new add_read read_rest read_points read_order
moved_unbent = (refl, refl)

-- unfinished: 22, and 12 before it; half an eighth is no whole number, which stands as 0
abbrev unfinished : Drawing
unfinished = drawn OneBend 5 ((1 ∷ 3 ∷ []) ∷ [])

pub moved_unfinished :
    (move_at unfinished (tool 8 8 8) 0 ≡ refused Unfinished 0) × (move_at unfinished (tool 8 41 8) 0 ≡ refused BadTool 0) × (move_at unfinished (tool 8 0 8) 0 ≡ refused BadTool 0)
unfolding call_tests judge placed_new add_read
moved_unfinished = (refl, refl, refl)
