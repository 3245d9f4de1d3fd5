-- `planar::put_fitting` meets its contract: 24 for either buffer, or both are written.
use Rattle.std.proofs.Common.{refl, arith}
use Rattle.planar.specs.Numbered.{order-size, list-size}
use Rattle.planar.specs.Outcome.{fills_no_order, fills_no_list, fills_both}
use Rattle.planar.proofs.put_fitting.Goals as goal

pub returns-then-order-size : goal.returns-then-order-size
returns-then-order-size c =
    let t = c.requires.1 in
    fills_no_order _ refl (omega (arith, c.from-n.ensures, order-size t, c.if-order-size.true))

pub returns-then-list-n : goal.returns-then-list-n
returns-then-list-n c =
    let t = c.requires.1 in
    fills_no_list _ refl (omega (arith, c.from-n.ensures, order-size t, c.if-order-size.false)) (omega (arith, c.from-n.ensures, list-size t, c.if-list-n.true))

pub returns : goal.returns
returns c =
    let t = c.requires.1 in
    let a = order-size t in
    let b = list-size t in
    let e = c.from-n.ensures in
    fills_both _ refl (omega (arith, e, a, c.if-order-size.false)) (omega (arith, e, b, c.if-list-n.false)) (omega (arith, e, a)) (omega (arith, e, b)) c.put_net.ensures.0 c.put_net.ensures.1
