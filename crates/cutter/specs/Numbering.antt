-- The moves of a drawing, line by line: how many stand before a line's, and which is which.
use Rattle.std.specs.Prelude.{ℕ, suc, ◌+◌, ◌-◌, ◌<◌, ◌≤◌, ◌≡◌, refl, List, [], ◌∷◌, ◌++◌, length, get_or, take, drop}
use Rattle.std.proofs.Common.{arith, sym, ap, ◌∙◌, append-nil, append_assoc, length-append, take-suc, take_all, get_or-append-add}
use Rattle.std.proofs.Math.ListN.{get_or-append}
use Rattle.std.proofs.Math.Seq.{split_at}
use Rattle.rules.specs.declared.Line.{Line}
use Rattle.rules.specs.Points.{Drawing as Plan, line_at}
use Rattle.rules.specs.Moves.{Tool, Move, lift, moves_of, moves_over, all_moves}

module _ (q : Plan) (t : Tool) where
  -- the moves of the first e lines
  abbrev pub moves_to : ℕ → List Move
  moves_to e = moves_over q t (take e q.lines)

  over_append : (ls ms : List Line) → moves_over q t (ls ++ ms) ≡ moves_over q t ls ++ moves_over q t ms
  over_append [] ms = refl
  over_append (l ∷ ls) ms = ap (λ (l' : List Move). moves_of q t l ++ l') (over_append ls ms) ∙ sym (append_assoc (moves_of q t l) (moves_over q t ls) (moves_over q t ms))

  over_one : (l : Line) → moves_over q t (l ∷ []) ≡ moves_of q t l
  over_one l = append-nil (moves_of q t l)

  -- one line more
  pub to_next : (e : ℕ) → e < length q.lines → moves_to (suc e) ≡ moves_to e ++ moves_of q t (line_at q e)
  to_next e h = ap (moves_over q t) (take-suc q.lines e _ h) ∙ over_append (take e q.lines) (line_at q e ∷ []) ∙ ap (λ (l : List Move). moves_to e ++ l) (over_one (line_at q e))

  -- all lines
  pub to_all : (e : ℕ) → length q.lines ≤ e → moves_to e ≡ all_moves q t
  to_all e h = ap (moves_over q t) (take_all e q.lines h)

  -- the moves up to a line, its own, and the rest
  all_split : (e : ℕ) → e < length q.lines → all_moves q t ≡ moves_to e ++ (moves_of q t (line_at q e) ++ moves_over q t (drop (suc e) q.lines))
  all_split e h = ap (moves_over q t) (split_at q.lines e _ h) ∙ over_append (take e q.lines) (line_at q e ∷ drop (suc e) q.lines)

  -- never more than all
  pub to_most : (e : ℕ) → e < length q.lines → length (moves_to e) + length (moves_of q t (line_at q e)) ≤ length (all_moves q t)
  to_most e h =
      omega (arith, ap length (all_split e h), length-append (moves_to e) (moves_of q t (line_at q e) ++ moves_over q t (drop (suc e) q.lines)), length-append (moves_of q t (line_at q e)) (moves_over q t (drop (suc e) q.lines)))

  -- A MOVE BY NUMBER: i is one of line e's, and so it is that line's by what is left of i.
  pub move_in : (e i : ℕ) → e < length q.lines → length (moves_to e) ≤ i → i < length (moves_to e) + length (moves_of q t (line_at q e)) →
      (i < length (all_moves q t)) × (get_or (all_moves q t) i (lift 0) ≡ get_or (moves_of q t (line_at q e)) (i - length (moves_to e)) (lift 0))
  move_in e i h low high =
      let front = moves_to e in
      let own = moves_of q t (line_at q e) in
      let rest = moves_over q t (drop (suc e) q.lines) in
      let j = i - length front in
      let f : i ≡ length front + j = omega arith in (
        omega (arith, to_most e h),
        ap (λ (l : List Move). get_or l i (lift 0)) (all_split e h)
            ∙ ap (λ (n : ℕ). get_or (front ++ (own ++ rest)) n (lift 0)) f
            ∙ get_or-append-add front (own ++ rest) j (lift 0)
            ∙ get_or-append own rest (lift 0) j (omega arith),
      )
