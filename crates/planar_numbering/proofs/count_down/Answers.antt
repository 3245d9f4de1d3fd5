-- `planar_numbering::count_down` meets its contract: the points with index from k on are numbered, and the rules number the others from there.
use Rattle.std.proofs.Common.{arith}
use Rattle.planar_numbering.specs.Numbered.{counting_on, counted-down}
use Rattle.planar_numbering.proofs.count_down.Goals as goal

pub loop-k-preserved : goal.loop-k-preserved
loop-k-preserved c = counting_on c.loop-k.invariant (omega (arith, c.loop-k-test.true)) c.number_next-boundary.ensures

pub returns : goal.returns
returns c = counted-down c.loop-k.invariant (omega (arith, c.loop-k-test.false))
