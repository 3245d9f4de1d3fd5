-- `write_lines`: one record more.
use Rattle.std.proofs.Common.{◌+◌, ◌*◌, ◌≤◌, arith, mul-le-mul}
use Rattle.rules.specs.Records.{line_size}
use Rattle.store_tables.specs.Tables.{arrays_in}
use Rattle.write_drawings.specs.Stores.{none_put, record_more}
use Rattle.write_drawings.proofs.Written.{lines_end}
use Rattle.write_drawings.proofs.write_lines.Goals as goal

pub loop-i-init : goal.loop-i-init
loop-i-init c = none_put _ _ (omega (arith, c.requires.room))

pub write_line-requires : goal.write_line-requires
write_line-requires c =
    let v = c.args.view.now in
    let n = v.drawing.now.counts in
    let i = c.loop-i.i in
    let before = c.loop-i.invariant in
    let up : line_size n.style * (i + 1) ≤ line_size n.style * c.args.count = mul-le-mul (omega arith) (omega arith) in
    record {
      line = omega (arith, c.requires.few);
      fits = c.requires.fits i (omega arith);
      room = omega (arith, up, c.requires.room, before.size, lines_end n.style n.s v.x.now (arrays_in v.drawing.now.table) c.args.from i before);
    }

pub loop-i-preserved : goal.loop-i-preserved
loop-i-preserved c = record_more _ c.loop-i.i c.loop-i.invariant c.write_line.ensures
