-- Every number of a line's five moves is below 2 ^ 24, and so an f32: places are at most 5,111, the scale at most 8, and a tool's numbers at most 80.
use Rattle.std.specs.Prelude.{ℕ, ◌*◌, ◌≤◌, ◌<◌}
use Rattle.std.proofs.Common.{mul-le-mul, arith}
use Rattle.rules.specs.declared.Place.{Place}
use Rattle.rules.specs.Moves.{Tool as WholeTool, eighths}
use Rattle.tool.specs.Exact.{AllSmall}
use Rattle.cutter_lines.specs.declared.Groove.{Groove}
use Rattle.cutter_lines.specs.Grooves.{five_moves, OnGrid, GrooveOnGrid}

-- a tool's numbers are at most 80
pub record Handy (t : WholeTool) : Type 0 where
  pub pitch : t.pitch ≤ 80
  pub depth : t.depth ≤ 80
  pub clearance : t.clearance ≤ 80

-- what a coordinate's product comes to at most
pub product : {s c p : ℕ} → s ≤ 8 → c ≤ 5111 → p ≤ 80 → (s * c ≤ 40888) × (s * c * p ≤ 3271040)
product hs hc hp = let m = mul-le-mul hs hc in (m, mul-le-mul m hp)

module _ {s : ℕ} {t : WholeTool} (scale : s ≤ 8) (h : Handy t) where
  small_number : (c : ℕ) → c ≤ 5111 → eighths s t c < 16777216
  small_number c b = omega (arith, product scale b h.pitch)

  small_place : (p : Place) → OnGrid p → (eighths s t p.x < 16777216) × (eighths s t p.y < 16777216)
  small_place p g = (small_number p.x g.across, small_number p.y g.up)

  pub five_small : (g : Groove) → GrooveOnGrid g → AllSmall (five_moves s t g)
  five_small g on =
      (small_place g.later on.later, (omega (arith, h.depth), (small_place g.bend on.bend, (small_place g.earlier on.earlier, (omega (arith, h.clearance), tt)))))
