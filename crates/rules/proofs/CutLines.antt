-- Worked cases of request 5 (`vectors-requests.txt`), by computing: the cut line with the lowest number at a point.
use Rattle.std.specs.Prelude.{ℕ, ◌≡◌, refl, List, [], ◌∷◌, map, take}
use Rattle.rules.specs.declared.Style.{Style}
use Rattle.rules.specs.declared.Style.TheVariants.{OneBend, Straight}
use Rattle.rules.specs.declared.Refusal.TheVariants.{NoSuch}
use Rattle.rules.specs.Basics.{lowest}
use Rattle.rules.specs.Refusals.{Result, good, refused, ◌>>=◌, gives}
use Rattle.rules.specs.Adding.{call_tests, judge, placed_new, add_read}
use Rattle.rules.specs.Calls.{drawn}
use Rattle.rules.specs.OrderFile.{read_rest, read_points, read_order}
use Rattle.rules.specs.Lookups.{Sought, cut_line, no_cut_line, look_cut}
use Rattle.rules.proofs.Ten.{told_of}

-- the cut lines at these points of an order file's drawing
abbrev cut_lines : Style → List ℕ → List ℕ → Result (List (Result Sought))
cut_lines style file points = read_order style file >>= λ d. good (map (λ p. look_cut d p) points)

pub cut_lines_drawn :
    -- K4, all plain
    (cut_lines OneBend (0x48 ∷ 0x44 ∷ 0x00 ∷ 0x05 ∷ 0x50 ∷ 0x54 ∷ 0x00 ∷ 0x00 ∷ 0x50 ∷ 0x54 ∷ 0x00 ∷ 0x01 ∷ 0x00 ∷ 0x01 ∷ 0x50 ∷ 0x54 ∷ 0x00 ∷ 0x02 ∷ 0x00 ∷ 0x01 ∷ 0x00 ∷ 0x02 ∷ 0x50 ∷ 0x54 ∷ 0x00 ∷ 0x02 ∷ 0x00 ∷ 0x01 ∷ 0x00 ∷ 0x03 ∷ 0x50 ∷ 0x54 ∷ 0x00 ∷ 0x04 ∷ 0x00 ∷ 0x01 ∷ 0x00 ∷ 0x04 ∷ 0x00 ∷ 0x03 ∷ 0x00 ∷ 0x02 ∷ 0x45 ∷ 0x4E ∷ []) (1 ∷ 2 ∷ 3 ∷ 4 ∷ 5 ∷ 0 ∷ 6 ∷ []) ≡ good (good (cut_line 0) ∷ good (cut_line 0) ∷ good (cut_line 1) ∷ good (cut_line 3) ∷ good (cut_line 5) ∷ refused NoSuch 0 ∷ refused NoSuch 0 ∷ [])) ×
    -- guides at 1-2, 3-1, 4-1; 5-1 is a feeder
    (cut_lines OneBend (0x48 ∷ 0x44 ∷ 0x00 ∷ 0x05 ∷ 0x50 ∷ 0x54 ∷ 0x00 ∷ 0x00 ∷ 0x50 ∷ 0x54 ∷ 0x00 ∷ 0x01 ∷ 0x80 ∷ 0x01 ∷ 0x50 ∷ 0x54 ∷ 0x00 ∷ 0x02 ∷ 0x80 ∷ 0x01 ∷ 0x00 ∷ 0x02 ∷ 0x50 ∷ 0x54 ∷ 0x00 ∷ 0x02 ∷ 0x80 ∷ 0x01 ∷ 0x00 ∷ 0x03 ∷ 0x50 ∷ 0x54 ∷ 0x00 ∷ 0x04 ∷ 0x40 ∷ 0x01 ∷ 0x00 ∷ 0x04 ∷ 0x00 ∷ 0x03 ∷ 0x00 ∷ 0x02 ∷ 0x45 ∷ 0x4E ∷ []) (1 ∷ 2 ∷ 3 ∷ 4 ∷ 5 ∷ []) ≡ good (good (cut_line 5) ∷ good (cut_line 2) ∷ good (cut_line 2) ∷ good (cut_line 4) ∷ good (cut_line 5) ∷ [])) ×
    -- all lines of point 4 are guides
    (cut_lines OneBend (0x48 ∷ 0x44 ∷ 0x00 ∷ 0x05 ∷ 0x50 ∷ 0x54 ∷ 0x00 ∷ 0x00 ∷ 0x50 ∷ 0x54 ∷ 0x00 ∷ 0x01 ∷ 0x00 ∷ 0x01 ∷ 0x50 ∷ 0x54 ∷ 0x00 ∷ 0x02 ∷ 0x00 ∷ 0x01 ∷ 0x00 ∷ 0x02 ∷ 0x50 ∷ 0x54 ∷ 0x00 ∷ 0x02 ∷ 0x80 ∷ 0x01 ∷ 0x80 ∷ 0x03 ∷ 0x50 ∷ 0x54 ∷ 0x00 ∷ 0x04 ∷ 0x00 ∷ 0x01 ∷ 0x80 ∷ 0x04 ∷ 0x00 ∷ 0x03 ∷ 0x00 ∷ 0x02 ∷ 0x45 ∷ 0x4E ∷ []) (1 ∷ 3 ∷ 4 ∷ 5 ∷ []) ≡ good (good (cut_line 0) ∷ good (cut_line 1) ∷ good no_cut_line ∷ good (cut_line 5) ∷ [])) ×
    -- only the last line is cut
    (cut_lines OneBend (0x48 ∷ 0x44 ∷ 0x00 ∷ 0x04 ∷ 0x50 ∷ 0x54 ∷ 0x00 ∷ 0x00 ∷ 0x50 ∷ 0x54 ∷ 0x00 ∷ 0x01 ∷ 0x80 ∷ 0x01 ∷ 0x50 ∷ 0x54 ∷ 0x00 ∷ 0x02 ∷ 0x80 ∷ 0x01 ∷ 0x80 ∷ 0x02 ∷ 0x50 ∷ 0x54 ∷ 0x00 ∷ 0x03 ∷ 0x80 ∷ 0x01 ∷ 0x80 ∷ 0x03 ∷ 0x00 ∷ 0x02 ∷ 0x45 ∷ 0x4E ∷ []) (1 ∷ 2 ∷ 3 ∷ 4 ∷ []) ≡ good (good no_cut_line ∷ good (cut_line 5) ∷ good no_cut_line ∷ good (cut_line 5) ∷ [])) ×
    -- straight, the last line a feeder, all others guides
    (cut_lines Straight (0x48 ∷ 0x44 ∷ 0x00 ∷ 0x04 ∷ 0x50 ∷ 0x54 ∷ 0x00 ∷ 0x00 ∷ 0x50 ∷ 0x54 ∷ 0x00 ∷ 0x01 ∷ 0x80 ∷ 0x01 ∷ 0x50 ∷ 0x54 ∷ 0x00 ∷ 0x02 ∷ 0x80 ∷ 0x01 ∷ 0x80 ∷ 0x02 ∷ 0x50 ∷ 0x54 ∷ 0x00 ∷ 0x03 ∷ 0x80 ∷ 0x01 ∷ 0x80 ∷ 0x03 ∷ 0x40 ∷ 0x02 ∷ 0x45 ∷ 0x4E ∷ []) (1 ∷ 2 ∷ 3 ∷ 4 ∷ []) ≡ good (good no_cut_line ∷ good (cut_line 5) ∷ good no_cut_line ∷ good (cut_line 5) ∷ []))
unfolding call_tests judge placed_new add_read read_rest read_points read_order lowest
cut_lines_drawn = (refl, refl, refl, refl, refl)

-- while adding: later lines don't change the answer
abbrev calls : List (List ℕ)
calls = (0x8001 ∷ 0x0003 ∷ []) ∷ (0x4001 ∷ 0x0004 ∷ []) ∷ []

-- the cut line at a point after so many of them
abbrev cut_line_after : ℕ → ℕ → Result Sought
cut_line_after count p = look_cut (drawn OneBend 6 (take count calls)) p

pub cut_lines_called :
    (told_of 6 calls ≡ gives tt ∷ gives tt ∷ []) ×
    (cut_line_after 0 3 ≡ good (cut_line 1)) ×
    (cut_line_after 1 4 ≡ good (cut_line 4)) × (cut_line_after 1 5 ≡ refused NoSuch 0) ×
    (cut_line_after 2 4 ≡ good (cut_line 4)) × (cut_line_after 2 5 ≡ good (cut_line 5)) × (cut_line_after 2 1 ≡ good (cut_line 0))
unfolding call_tests judge placed_new add_read lowest
cut_lines_called = (refl, refl, refl, refl, refl, refl, refl)
