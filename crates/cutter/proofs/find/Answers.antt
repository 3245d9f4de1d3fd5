-- `find` meets its contract: `before` moves stand before the line at hand, and that is no more than the number.
use Rattle.std.proofs.Common.{arith}
use Rattle.cutter_grooves.specs.Grid.{scale}
use Rattle.cutter.specs.Finding.{counted_all, found_here, found_next}
use Rattle.cutter.proofs.find.Goals as goal

pub returns-then-number-before : goal.returns-then-number-before
returns-then-number-before c q t h w =
    found_here h t c.loop-line.line c.loop-line.before (c.loop-line.invariant.is q t h w) c.loop-line-test.true c.groove_of.result (c.groove_of.ensures.is q h) (scale c.requires.came).0 w
    c.args.number c.loop-line.invariant.low (omega (arith, c.if-number-before.true, c.move_total-here.ensures.value))

pub loop-line-preserved : goal.loop-line-preserved
loop-line-preserved c = record {
  low = omega (arith, c.if-number-before.false);
  few = omega (arith, c.loop-line.invariant.few, c.move_total-here.ensures.some);
  is = λ q t h w.
      rw c.move_total-here.ensures.value
      (found_next h t c.loop-line.line c.loop-line.before (c.loop-line.invariant.is q t h w) c.loop-line-test.true c.groove_of.result (c.groove_of.ensures.is q h) (scale c.requires.came).0 w);
}

pub returns : goal.returns
returns c q t h w = omega (arith, c.loop-line.invariant.low, counted_all h t c.loop-line.line c.loop-line.before (c.loop-line.invariant.is q t h w) c.loop-line-test.false)
