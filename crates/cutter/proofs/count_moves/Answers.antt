-- `count_moves` meets its contract.
use Rattle.std.proofs.Common.{ℕ, ◌+◌, ap, ◌∙◌, arith}
use Rattle.cutter_grooves.specs.Grid.{scale}
use Rattle.cutter.specs.Finding.{counted_all, found_next}
use Rattle.cutter.proofs.count_moves.Goals as goal

pub loop-line-preserved : goal.loop-line-preserved
loop-line-preserved c = record {
  few = omega (arith, c.loop-line.invariant.few, c.move_total-here.ensures.some);
  is = λ q t h w.
      ap (λ (n : ℕ). c.loop-line.count + n) c.move_total-here.ensures.value
      ∙ found_next h t c.loop-line.line c.loop-line.count (c.loop-line.invariant.is q t h w) c.loop-line-test.true c.groove_of.result (c.groove_of.ensures.is q h) (scale c.requires.came).0 w;
}

pub returns : goal.returns
returns c q t h w = counted_all h t c.loop-line.line c.loop-line.count (c.loop-line.invariant.is q t h w) c.loop-line-test.false
