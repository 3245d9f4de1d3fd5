-- `largest`: one height more.
use Rattle.std.proofs.Common.{ℕ, arith, max, take, ap, ◌∙◌}
use Rattle.std.proofs.Math.ListN.{get_or-map}
use Rattle.std.proofs.lemmas.List.{length-map}
use Rattle.std.proofs.lemmas.Grind.{common_steps}
use Rattle.rules.specs.DrawingFile.{highest}
use Rattle.store_tables.specs.declared.Point.{Point}
use Rattle.store_tables.specs.Tables.{ys, no_point}
use Rattle.write_drawings.proofs.Turns.{highest_more}
use Rattle.write_drawings.proofs.largest.Goals as goal

pub loop-p-preserved : goal.loop-p-preserved
loop-p-preserved c =
    let ps = c.args.points.now in
    let i = c.loop-p.p-index in
    let y : Point → ℕ = λ p. p.y in
    let h = highest_more (ys ps) i (omega (arith, length-map ps y)) ∙ ap (max (highest (take i (ys ps)))) (get_or-map y ps i no_point) in
    grind (arith, common_steps, h)
