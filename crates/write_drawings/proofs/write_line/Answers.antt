-- `write_line`: what it reads is the line, and the place that it finds is the line's bend.
use Rattle.std.proofs.Common.{refl}
use Rattle.store_tables.specs.Tables.{arrays_in}
use Rattle.write_drawings.proofs.Written.{line-put, straight-put}
use Rattle.write_drawings.proofs.write_line.Goals as goal

pub returns-in-OneBend : goal.returns-in-OneBend
returns-in-OneBend c =
    let v = c.args.view.now in
    line-put v.x.now (arrays_in v.drawing.now.table) v.drawing.now.counts.s c.args.e c.in-OneBend.is refl c.bend_of-bend.ensures c.scaled-bend_x.ensures c.scaled-bend_y.ensures
    c.last_field-field.ensures c.words.ensures

pub returns-in-Straight : goal.returns-in-Straight
returns-in-Straight c =
    let v = c.args.view.now in
    straight-put v.x.now (arrays_in v.drawing.now.table) v.drawing.now.counts.s c.args.e c.in-Straight.is refl c.last_field-field.ensures c.words-in-Straight.ensures
