-- `planar_judging::not_twice` meets its contract: marks are those of the first i places, which name no vertex twice.
use Rattle.std.proofs.Common.{◌<◌, Some, None, refl, ap, sym, ◌∙◌, arith, get_or}
use Rattle.planar_reading.specs.Reads.{net_in}
use Rattle.planar_judging.specs.Laws.{unmarked, mark_is, mark_isnt, marks_none, marks_stop, marks_more, marks_all}
use Rattle.planar_judging.proofs.not_twice.Goals as goal

pub loop-i-init : goal.loop-i-init
loop-i-init c = marks_none (net_in c.args.net.now) _ refl (unmarked 256)

pub returns-then-eq : goal.returns-then-eq
returns-then-eq c =
    let l = c.loop-i in
    let e = c.from-u.ensures ∙ c.neighbour.ensures in
    marks_stop c.args.net.now.kept.listed (omega arith) l.invariant (ap (λ u. get_or l.marks u None) (sym e) ∙ mark_is _ _ (sym c.eq.ensures ∙ c.if-eq.true) ∙ ap Some c.owner-v.ensures)

pub loop-i-preserved : goal.loop-i-preserved
loop-i-preserved c =
    let l = c.loop-i in
    let e = c.from-u.ensures ∙ c.neighbour.ensures in
    let v = c.owner-v.ensures in
    let small : get_or c.args.net.now.neighbours l.i 0 < 256 = omega (arith, c.args.net.now.kept.nbrs l.i (omega arith), c.args.net.now.kept.byte) in
    rw (e, v) (marks_more c.args.net.now.kept.listed (omega arith) l.invariant small (λ q. mark_isnt _ _ (sym c.eq.ensures ∙ c.if-eq.false) (ap (λ u. get_or l.marks u None) e ∙ q ∙ ap Some (sym v))))

pub returns : goal.returns
returns c = marks_all c.loop-i.invariant (omega arith)
