-- Every number of a drawing's moves is below 2 ^ 24: places are at most 5,111, the scale is at most 8, and a tool's numbers are at most 80.
use Rattle.std.specs.Prelude.{ℕ, suc, ◌<◌, ◌≤◌, ◌≡◌, Bool, true, false, ◌&&◌, List, [], ◌∷◌, ◌++◌, length, get_or, eqb, if◌then◌else◌}
use Rattle.std.proofs.Common.{subst, arith}
use Rattle.rules.specs.declared.Kind.{Kind}
use Rattle.rules.specs.declared.Kind.TheVariants.{Guide, Plain, Feeder}
use Rattle.rules.specs.declared.Line.{Line}
use Rattle.rules.specs.Basics.{between}
use Rattle.rules.specs.Bools.{both, in_range}
use Rattle.rules.specs.Points.{Drawing, line_at}
use Rattle.rules.specs.Moves.{Tool, Move, travel, cut, plunge, lift, is_tool, without_dwelling, repeated, moves_of, moves_over, all_moves}
use Rattle.promise.specs.Standing.{Standing}
use Rattle.tool.specs.Exact.{AllSmall}
use Rattle.cutter_lines.specs.Grooves.{five_moves, once_moves}
use Rattle.cutter_lines.specs.Sizes.{Handy, five_small}
use Rattle.cutter_grooves.specs.Grooves.{groove_of, groove_moves_lem}
use Rattle.cutter_grooves.specs.Grid.{groove_on_grid}

-- ---- lists of moves

small_append : (ms ns : List Move) → AllSmall ms → AllSmall ns → AllSmall (ms ++ ns)
small_append [] ns h k = k
small_append (m ∷ ms) ns h k = (h.0, small_append ms ns h.1 k)

small_without : (x y : ℕ) (ms : List Move) → AllSmall ms → AllSmall (without_dwelling x y ms)
small_without x y [] h = tt
small_without x y (travel a b ∷ ms) h = (h.0, small_without a b ms h.1)
small_without x y (cut a b ∷ ms) h = go (eqb a x && eqb b y) (small_without a b ms h.1)
  where
    go : (t : Bool) → AllSmall (without_dwelling a b ms) → AllSmall ((if t then [] else cut a b ∷ []) ++ without_dwelling a b ms)
    go true k = k
    go false k = (h.0, k)
small_without x y (plunge z ∷ ms) h = (h.0, small_without x y ms h.1)
small_without x y (lift z ∷ ms) h = (h.0, small_without x y ms h.1)

small_repeated : (k : Kind) (ms : List Move) → AllSmall ms → AllSmall (repeated k ms)
small_repeated Guide ms h = tt
small_repeated Plain ms h = h
small_repeated Feeder ms h = small_append ms ms h h

-- ---- a drawing's

handy : (t : Tool) → is_tool t ≡ true → Handy t
handy t is =
    let l = both (between 1 80 t.pitch) (between 1 40 t.depth && between 1 80 t.clearance) is in
    let r = both (between 1 40 t.depth) (between 1 80 t.clearance) l.1 in
    record { pitch = (in_range 1 80 t.pitch l.0).1; depth = omega (arith, in_range 1 40 t.depth r.0); clearance = (in_range 1 80 t.clearance r.1).1 }

-- some lines' moves, line by line
small_over : (d : Drawing) (t : Tool) (ls : List Line) (z : Line) → ((e : ℕ) → e < length ls → AllSmall (moves_of d t (get_or ls e z))) → AllSmall (moves_over d t ls)
small_over d t [] z h = tt
small_over d t (l ∷ ls) z h = small_append (moves_of d t l) (moves_over d t ls) (h 0 (omega arith)) (small_over d t ls z (λ e b. h (suc e) (omega arith)))

-- THE SIZE OF THE NUMBERS
pub moves_small : (d : Drawing) → Standing d → (t : Tool) → d.s ≤ 8 → is_tool t ≡ true → AllSmall (all_moves d t)
moves_small d h t scale is =
    small_over d t d.lines _ (λ e el.
    let g = groove_of d (line_at d e) in
    subst AllSmall (groove_moves_lem d t (line_at d e)) (small_repeated g.kind (once_moves d.s t g) (small_without 0 0 (five_moves d.s t g) (five_small scale (handy t is) g (groove_on_grid d h e el)))))
