-- `write_drawing`: header and points, lines and end mark, one behind the other, are the drawing file.
use Rattle.std.proofs.Common.{length, ap, arith, rules}
use Rattle.store_tables.specs.Tables.{arrays_in}
use Rattle.pages.specs.Pages.{page_filled}
use Rattle.write_drawings.specs.Files.{file_is}
use Rattle.write_drawings.specs.Fitting.{ready, lines-ready}
use Rattle.write_drawings.proofs.Written.{lines_end, length-head, file-put}
use Rattle.write_drawings.proofs.write_drawing.Goals as goal

pub write_head-requires : goal.write_head-requires
write_head-requires c = record { held = record { d = c.requires.d; finished = c.requires.finished }; room = omega (arith, c.new-page.ensures.at, ap length c.new-page.ensures.bytes, (ready c.requires).room) }

pub write_lines-requires : goal.write_lines-requires
write_lines-requires c =
    let v = c.args.view.now in
    let head = c.write_head.ensures in
    let long = length-head v.x.now (arrays_in v.drawing.now.table) v.drawing.now.counts in
    lines-ready c.requires.finished 0 _ _ _ (omega arith) (omega (arith, c.new-page.ensures.at, ap length c.new-page.ensures.bytes, head.at, head.size, long, (ready c.requires).room))

pub put_end-requires : goal.put_end-requires
put_end-requires c =
    let v = c.args.view.now in
    let t = arrays_in v.drawing.now.table in
    let n = v.drawing.now.counts in
    let head = c.write_head.ensures in
    let lines = c.write_lines.ensures in
    omega (arith, c.new-page.ensures.at, ap length c.new-page.ensures.bytes, head.at, head.size, length-head v.x.now t n, lines.size, lines_end n.style n.s v.x.now t 0 n.lines lines, (ready c.requires).room)

pub returns : goal.returns
returns c = λ d f.
    let v = c.args.view.now in
    let all = file-put v.x.now (arrays_in v.drawing.now.table) v.drawing.now.counts c.write_head.ensures c.write_lines.ensures c.put_end.ensures in
    page_filled c.new-page.ensures.at c.new-page.ensures.bytes (rw (file_is f) at all) (search rules)
