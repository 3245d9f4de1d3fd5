-- The loop keeps `Going`, and each turn is its `turn`.
use Rattle.std.proofs.Common.{arith}
use Rattle.calls.proofs.Going.{going_last, callable, turn}
use Rattle.calls.proofs.all_calls.Goals as goal

pub one_call-requires : goal.one_call-requires
one_call-requires c = callable c.loop-at.invariant c.loop-at-test.true c.end_of-end.result c.end_of-end.ensures (c.type_inv.calls c.loop-at.at).fits

pub loop-at-preserved : goal.loop-at-preserved
loop-at-preserved c = turn c.loop-at.invariant c.loop-at-test.true c.end_of-end.result c.end_of-end.ensures c.one_call.ensures

pub returns : goal.returns
returns c = going_last c.loop-at.invariant (omega arith)
