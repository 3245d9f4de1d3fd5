-- What an order file's moves ask of the buffers: there are at most ten a line, and so at most 30,720, and every number of them is below 2 ^ 24.
use Rattle.std.specs.Prelude.{ℕ, ◌≡◌, true, not, List, ltb}
use Rattle.std.proofs.Common.{sym, subst, arith}
use Rattle.std.proofs.lemmas.Bool.{not-false}
use Rattle.rules.specs.declared.Style.{Style}
use Rattle.rules.specs.declared.Refusal.TheVariants.{BadTool, Unfinished}
use Rattle.rules.specs.Refusals.{good, refuse_if, ◌>>◌, ◌>>=◌}
use Rattle.rules.specs.Results.{same_value, bound, tested}
use Rattle.rules.specs.Points.{Drawing}
use Rattle.rules.specs.OrderFile.{read_order}
use Rattle.rules.specs.Moves.{Tool, Move, is_tool, all_moves, given_moves}
use Rattle.rules.proofs.Dwelling.{has_pitch}
use Rattle.promise.specs.Standing.{Standing}
use Rattle.promise.proofs.Bounds.{lines_most}
use Rattle.exchange.specs.DrawingRead.{standing}
use Rattle.exchange.specs.Kept.{order-reached}
use Rattle.tool.specs.Exact.{AllSmall}
use Rattle.cutter_grooves.specs.Grooves.{moves_most}
use Rattle.printing_listed.specs.Sizes.{moves_small}
use Rattle.printing_listed.specs.Counts.{Roomy}

-- moves that are given are all moves, and the tool is one of the rules
taken : (d : Drawing) (t : Tool) (ms : List Move) → given_moves d t ≡ good ms → (is_tool t ≡ true) × (all_moves d t ≡ ms)
taken d t ms e =
    let a = tested (not (is_tool t)) BadTool 0 (refuse_if (ltb d.k d.n) Unfinished 0 >> good (all_moves d t)) ms e in
    let b = tested (ltb d.k d.n) Unfinished 0 (good (all_moves d t)) ms a.last in
    (not-false (is_tool t) a.passed, same_value (all_moves d t) ms b.last)

-- THE MOVES OF AN ORDER FILE'S DRAWING
pub order_roomy : (τ : Style) (f : List ℕ) (t : Tool) → Roomy (read_order τ f >>= λ d. given_moves d t)
order_roomy τ f t =
    record {
      few = λ ms e.
          let b = bound (read_order τ f) (λ d. given_moves d t) ms e in
          let d = b.value in
          let r = order-reached τ f d b.first in
          let g = taken d t ms b.last in
          let wide = has_pitch t g.0 in
          let h : Standing d = standing r.built r.low r.high in
          rw (sym g.1) (omega (arith, moves_most d t d.lines r.scale.0 wide, lines_most d h));
      small = λ ms e.
          let b = bound (read_order τ f) (λ d. given_moves d t) ms e in
          let d = b.value in
          let r = order-reached τ f d b.first in
          let g = taken d t ms b.last in
          subst AllSmall g.1 (moves_small d (standing r.built r.low r.high) t r.scale.1 g.0);
    }
