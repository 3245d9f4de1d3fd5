-- A turn's test is the definition's.
use Rattle.std.proofs.Common.{sym, ap, ◌∙◌, arith}
use Rattle.store_links.specs.Placing.{inner_count}
use Rattle.store_tables.specs.Tables.{arrays_in}
use Rattle.store_tables.specs.Columns.{point_at}
use Rattle.store_placing.proofs.Turns.{along, tested-either, all_more, all_stop}
use Rattle.store_placing.proofs.all_reach.Goals as goal

pub returns-then-not-either_reaches : goal.returns-then-not-either_reaches
returns-then-not-either_reaches c =
    let x = c.args in
    let a = arrays_in x.table.now in
    let i = c.loop-i.i in
    let v = c.point-point.ensures ∙ ap (point_at a) c.point_at.ensures.0 in
    let t = c.either_reaches.ensures ∙ tested-either x.p a x.e.now i _ _ _ _ v c.from-a.ensures c.loop-i.invariant.0 c.from-y.ensures in
    sym (c.loop-i.invariant.2 ∙ all_stop x.p a.gap a.ys x.e.now (inner_count x.e.now) i (omega arith) (sym t ∙ c.if-not-either_reaches.true))

pub loop-i-preserved : goal.loop-i-preserved
loop-i-preserved c =
    let x = c.args in
    let a = arrays_in x.table.now in
    let i = c.loop-i.i in
    let v = c.point-point.ensures ∙ ap (point_at a) c.point_at.ensures.0 in
    let t = c.either_reaches.ensures ∙ tested-either x.p a x.e.now i _ _ _ _ v c.from-a.ensures c.loop-i.invariant.0 c.from-y.ensures in
    (along x.p a x.e.now i _ _ 0 _ v c.from-a.ensures c.loop-i.invariant.0, omega arith, c.loop-i.invariant.2 ∙ all_more x.p a.gap a.ys x.e.now (inner_count x.e.now) i (omega arith) (sym t ∙ c.if-not-either_reaches.false))
