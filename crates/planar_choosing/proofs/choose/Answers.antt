-- `planar_choosing::choose` meets its contract: no vertex below v may come off.
use Rattle.std.proofs.Common.{sym, ◌∙◌, arith}
use Rattle.rules.proofs.Lowest.{lowest_on}
use Rattle.planar_rules.specs.PlanarCode.{open?}
use Rattle.planar_reading.specs.Reads.{net_in}
use Rattle.planar_choosing.specs.Choosing.{chosen_is, chosen_none}
use Rattle.planar_choosing.proofs.choose.Goals as goal

pub returns-then-open : goal.returns-then-open
returns-then-open c =
    c.index_of.ensures.index ∙ chosen_is (net_in c.args.net.now) c.args.boundary.now c.loop-v.v (omega arith) (sym c.open.ensures ∙ c.if-open.true) c.loop-v.invariant

pub loop-v-preserved : goal.loop-v-preserved
loop-v-preserved c =
    c.loop-v.invariant ∙ lowest_on (open? (net_in c.args.net.now) c.args.boundary.now) _ c.loop-v.v (omega arith) (sym c.open.ensures ∙ c.if-open.false)

pub returns : goal.returns
returns c = chosen_none (net_in c.args.net.now) c.args.boundary.now c.loop-v.v (omega arith) c.loop-v.invariant
