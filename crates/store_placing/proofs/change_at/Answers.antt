-- A turn's test is the definition's.
use Rattle.std.proofs.Common.{◌+◌, sym, ap, ◌∙◌, arith}
use Rattle.store_links.specs.Placing.{inner_count}
use Rattle.store_tables.specs.Tables.{arrays_in}
use Rattle.store_tables.specs.Columns.{point_at}
use Rattle.store_placing.proofs.Turns.{along, tested, change_more, change_stop}
use Rattle.store_placing.proofs.change_at.Goals as goal

pub scan-preserved : goal.scan-preserved
scan-preserved c =
    let x = c.args in
    let a = arrays_in x.table.now in
    let i = c.scan.passed in
    let v = c.point-point.ensures ∙ ap (point_at a) c.point_at.ensures.0 in
    let t = c.port_reaches.ensures ∙ tested x.p a x.e.now i _ _ _ _ v c.from-a.ensures c.scan.invariant.1 c.from-y.ensures (i + 1) in
    (omega arith, along x.p a x.e.now i _ _ 0 _ v c.from-a.ensures c.scan.invariant.1, omega arith, c.scan.invariant.3 ∙ change_more x.p a.gap a.ys x.e.now (inner_count x.e.now) i (omega arith) (sym t ∙ c.if-not-port_reaches.false))

pub returns-then-not-port_reaches : goal.returns-then-not-port_reaches
returns-then-not-port_reaches c =
    let x = c.args in
    let a = arrays_in x.table.now in
    let i = c.scan.passed in
    let v = c.point-point.ensures ∙ ap (point_at a) c.point_at.ensures.0 in
    let t = c.port_reaches.ensures ∙ tested x.p a x.e.now i _ _ _ _ v c.from-a.ensures c.scan.invariant.1 c.from-y.ensures (i + 1) in
    sym (c.scan.invariant.3 ∙ change_stop x.p a.gap a.ys x.e.now (inner_count x.e.now) i (omega arith) (sym t ∙ c.if-not-port_reaches.true))
