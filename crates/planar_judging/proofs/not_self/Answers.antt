-- `planar_judging::not_self` meets its contract: the first i places don't name their own vertex.
use Rattle.std.proofs.Common.{sym, ◌∙◌, arith, eq-eqb, ne_eqb}
use Rattle.planar_rules.specs.PlanarCode.{not_self?}
use Rattle.planar_judging.specs.Laws.{passed_none, passed_more, passed_stop, passed_all}
use Rattle.planar_judging.proofs.not_self.Goals as goal

pub loop-i-init : goal.loop-i-init
loop-i-init c = passed_none

pub returns-then-neighbour-owner : goal.returns-then-neighbour-owner
unfolding not_self?
returns-then-neighbour-owner c = passed_stop c.loop-i.invariant (omega arith) (rw (eq-eqb _ _ (sym c.neighbour.ensures ∙ c.if-neighbour-owner.true ∙ c.owner.ensures)))

pub loop-i-preserved : goal.loop-i-preserved
loop-i-preserved c = passed_more c.loop-i.invariant (omega arith) (rw (ne_eqb _ _ (λ e. c.if-neighbour-owner.false (c.neighbour.ensures ∙ e ∙ sym c.owner.ensures))))

pub returns : goal.returns
unfolding not_self?
returns c = passed_all c.loop-i.invariant (omega arith)
