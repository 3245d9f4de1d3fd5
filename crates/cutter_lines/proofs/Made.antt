-- The moves of a line in f32 are document 01's, with no error; and how a cut is counted.
use Rattle.std.proofs.Common.{◌≡◌, ℕ, ◌%◌, ◌<◌, ◌≤◌, Bool, true, false, not, refl, sym, ap, ◌∙◌, subst, arith}
use Rattle.std.proofs.Math.Nat.{mod-lt}
use Rattle.std.specs.Prelude.{if◌then◌else◌}
use mir.Val.{bool_byte}
use Rattle.rules.specs.Meeting.{same_place}
use Rattle.rules.specs.Moves.{Move as WholeMove}
use Rattle.tool.specs.declared.Numbers.{Numbers}
use Rattle.tool.specs.declared.Move.{Move}
use Rattle.tool.specs.Checking.{tool_of, InRange}
use Rattle.tool.specs.Showing.{Shows, in_floats, IsMove}
use Rattle.tool.specs.Exact.{small_at, shows}
use Rattle.cutter_lines.specs.declared.Groove.{Groove}
use Rattle.cutter_lines.specs.Grooves.{five_moves, five_move, groove_move, each, total, step_of, GrooveOnGrid}
use Rattle.cutter_lines.specs.Laws.{step_is, groove_at}
use Rattle.cutter_lines.specs.Sizes.{Handy, five_small}

-- a cut that isn't left out counts as one
pub one_cut : (out : Bool) → bool_byte (not out) ≡ (if out then 0 else 1)
one_cut true = refl
one_cut false = refl

handy : (t : Numbers) → InRange t → Handy (tool_of t)
handy t r = record { pitch = r.pitch; depth = omega (arith, r.depth); clearance = r.clearance }

module _ {s : ℕ} {t : Numbers} {g : Groove} (scaled : (1 ≤ s) × (s ≤ 8)) (in_range : InRange t) (on : GrooveOnGrid g) where
  -- one of the five has no error
  exact : (which : ℕ) → which < 5 → Shows (in_floats (five_move which s t g)) (five_move which s t g)
  exact which h = shows (five_move which s t g) (small_at (five_moves s (tool_of t) g) which (omega (arith, h)) (five_small scaled.1 (handy t in_range) g on))

  -- move `number` is the one of the five that its step says
  pub made : (number : ℕ) {m step : ℕ} {r : Move} → number < total g → m ≡ each g → step ≡ step_of (same_place g.bend g.later) (same_place g.earlier g.bend) (number % m) →
      r ≡ in_floats (five_move step s t g) → IsMove r (groove_move number s t g)
  made number {m} {step} {r} h em es e =
      let same : step ≡ step_of (same_place g.bend g.later) (same_place g.earlier g.bend) (number % each g) = rw (← em) es in
      let at = step_is s (tool_of t) g scaled.0 in_range.some (number % each g) (mod-lt number {m = each g} (omega arith)) in
      let is : five_move step s t g ≡ groove_move number s t g = ap (λ (n : ℕ). five_move n s t g) same ∙ at.1 ∙ sym (groove_at s (tool_of t) g scaled.0 in_range.some number h) in
      subst (λ (v : WholeMove). IsMove r v) is (e, subst (λ (z : Move). Shows z (five_move step s t g)) (sym e) (exact step (rw same at.0)))
