-- `planar_judging::faces` meets its contract: from each of the first i places three sides lead back to it.
use Rattle.std.proofs.Common.{sym, ◌∙◌, arith, eq-eqb, ne_eqb}
use Rattle.planar_rules.specs.PlanarCode.{faces?}
use Rattle.planar_judging.specs.Laws.{passed_none, passed_more, passed_stop, passed_all, side_asks, side-gives, three-sides}
use Rattle.planar_judging.proofs.faces.Goals as goal

pub loop-i-init : goal.loop-i-init
loop-i-init c = passed_none

pub side_of-a-requires : goal.side_of-a-requires
side_of-a-requires c = side_asks c.args.net.now.kept c.requires (omega arith)

pub side_of-b-requires : goal.side_of-b-requires
side_of-b-requires c =
    let k = c.args.net.now.kept in
    side_asks k c.requires (side-gives k c.requires (omega arith) c.side_of-a.ensures).1

pub side_of-c-requires : goal.side_of-c-requires
side_of-c-requires c =
    let k = c.args.net.now.kept in
    let first = side-gives k c.requires (omega arith) c.side_of-a.ensures in
    side_asks k c.requires (side-gives k c.requires first.1 c.side_of-b.ensures).1

pub returns-then-c-i : goal.returns-then-c-i
unfolding faces?
returns-then-c-i c =
    let back = three-sides c.args.net.now.kept c.requires (omega arith) c.side_of-a.ensures c.side_of-b.ensures c.side_of-c.ensures in
    passed_stop c.loop-i.invariant (omega arith) (ne_eqb _ _ (λ e. c.if-c-i.true (back ∙ e)))

pub loop-i-preserved : goal.loop-i-preserved
loop-i-preserved c =
    let back = three-sides c.args.net.now.kept c.requires (omega arith) c.side_of-a.ensures c.side_of-b.ensures c.side_of-c.ensures in
    passed_more c.loop-i.invariant (omega arith) (eq-eqb _ _ (sym back ∙ c.if-c-i.false))

pub returns : goal.returns
unfolding faces?
returns c = passed_all c.loop-i.invariant (omega arith)
