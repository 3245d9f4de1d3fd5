-- `planar_judging::in_both` meets its contract: the first i lines stand in both lists, and backs has where.
use Rattle.std.proofs.Common.{refl, sym, ◌∙◌, arith, length-set, lt-ltb, le-ltb, ltb-true}
use Rattle.planar_rules.specs.PlanarCode.{back, in_both?}
use Rattle.planar_sphere.proofs.Check.{all_true}
use Rattle.planar_reading.specs.Reads.{net_in, found_some, found_none}
use Rattle.planar_judging.specs.Laws.{passed_none, passed_more, passed_stop, passed_all, set_more}
use Rattle.planar_judging.proofs.in_both.Goals as goal

pub loop-i-init : goal.loop-i-init
loop-i-init c = (passed_none, refl, λ k l. absurd (omega arith))

pub returns-in_err-e-clause-none : goal.returns-in_err-e-clause-none
unfolding in_both?
returns-in_err-e-clause-none c =
    let f = net_in c.args.net.now in
    let out = le-ltb (back f c.loop-i.i) f.D (found_none f _ _ (sym (rw (c.neighbour.ensures, c.owner.ensures) at c.place_of.ensures) ∙ c.in_err-e.was)) in
    rw c.from_residual.ensures (sym (passed_stop c.loop-i.invariant.0 (omega arith) out))

pub loop-i-preserved : goal.loop-i-preserved
loop-i-preserved c =
    let l = c.loop-i in
    let net = c.args.net.now in
    let f = net_in net in
    let found = found_some f _ _ (sym (rw (c.neighbour.ensures, c.owner.ensures) at c.place_of.ensures) ∙ c.in_ok-e.was) in (
      passed_more l.invariant.0 (omega arith) (lt-ltb (back f l.i) f.D (omega (arith, found))),
      length-set l.backs l.i _ ∙ l.invariant.1,
      set_more l.backs (back f) l.i _ (omega (arith, l.invariant.1, net.kept.few)) l.invariant.2 (sym found.0),
    )

pub returns-clause-some : goal.returns-clause-some
unfolding in_both?
returns-clause-some c =
    let l = c.loop-i in
    let yes = passed_all l.invariant.0 (omega arith) in
    (sym yes, record { is = λ d dl. l.invariant.2 d (omega arith); within = λ d dl. ltb-true _ _ (all_true _ _ (sym yes) d dl) })
