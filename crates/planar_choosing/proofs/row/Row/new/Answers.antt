-- `planar_choosing::Row::new` meets its contract: stands has where the first i vertices stand.
use Rattle.std.proofs.Common.{◌<◌, refl, arith, get_or}
use Rattle.planar_reading.specs.Laws.{zeros}
use Rattle.planar_choosing.specs.Rows.{pos_none, pos_more}
use Rattle.planar_choosing.proofs.row.Row.new.Goals as goal

pub loop-i-init : goal.loop-i-init
loop-i-init c = pos_none c.args.vertices _ refl (zeros 256)

pub loop-i-preserved : goal.loop-i-preserved
loop-i-preserved c =
    let e = c.from.ensures in
    let small : get_or c.args.vertices c.loop-i.i 0 < 256 = omega (arith, c.loop-i-test.element_fits) in
    rw e (pos_more c.args.count (omega arith) c.requires.1 small c.loop-i.invariant)
