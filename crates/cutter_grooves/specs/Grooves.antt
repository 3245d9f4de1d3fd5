-- A line of a drawing as it is cut: its moves are those that the rules give.
use Rattle.std.specs.Prelude.{◌*◌, ◌≤◌, ◌≡◌, refl, List, [], ◌∷◌, length}
use Rattle.std.proofs.Common.{sym, ap, ◌∙◌, arith, length-append}
use Rattle.rules.specs.declared.Style.{Style}
use Rattle.rules.specs.declared.Style.TheVariants.{OneBend, Straight}
use Rattle.rules.specs.declared.Line.{Line}
use Rattle.rules.specs.declared.Place.{Place}
use Rattle.rules.specs.Points.{Drawing as Plan, place_of}
use Rattle.rules.specs.Ports.{bend_place}
use Rattle.rules.specs.Moves.{Tool as WholeTool, line_moves, without_dwelling, moves_of, moves_over, repeated}
use Rattle.rules.proofs.Dwelling.{straight-bent}
use Rattle.cutter_lines.specs.declared.Groove.{Groove}
use Rattle.cutter_lines.specs.Grooves.{groove_moves, total}
use Rattle.cutter_lines.specs.Laws.{total-count, total_most}

-- where a line bends; of a straight line another place stands for that
abbrev pub bend_by : Style → Place → Place → Place
bend_by OneBend bend other = bend
bend_by Straight bend other = other

-- the line as it is cut
abbrev pub groove_of : Plan → Line → Groove
groove_of q l =
    let earlier = place_of q l.earlier in
    record { kind = l.kind; later = place_of q l.later; bend = bend_by q.style (bend_place q l) earlier; earlier = earlier }

-- its moves
pub groove_moves_lem : (q : Plan) (t : WholeTool) (l : Line) → groove_moves q.s t (groove_of q l) ≡ moves_of q t l
groove_moves_lem q t l = ap (repeated l.kind) (go q.style)
  where
    go : (τ : Style) →
        without_dwelling 0 0 (line_moves OneBend q.s t (place_of q l.later) (bend_by τ (bend_place q l) (place_of q l.earlier)) (place_of q l.earlier)) ≡
        without_dwelling 0 0 (line_moves τ q.s t (place_of q l.later) (bend_place q l) (place_of q l.earlier))
    go OneBend = refl
    go Straight = sym (straight-bent q.s t (place_of q l.later) (bend_place q l) (place_of q l.earlier))

-- how many they are
pub groove_count : (q : Plan) (t : WholeTool) (l : Line) → 1 ≤ q.s → 1 ≤ t.pitch → length (moves_of q t l) ≡ total (groove_of q l)
groove_count q t l some wide = sym (ap length (groove_moves_lem q t l)) ∙ total-count q.s t (groove_of q l) some wide

-- never more than ten a line
pub moves_most : (q : Plan) (t : WholeTool) (ls : List Line) → 1 ≤ q.s → 1 ≤ t.pitch → length (moves_over q t ls) ≤ 10 * length ls
moves_most q t [] some wide = omega arith
moves_most q t (l ∷ ls) some wide =
    omega (arith, length-append (moves_of q t l) (moves_over q t ls), groove_count q t l some wide, total_most (groove_of q l), moves_most q t ls some wide)
