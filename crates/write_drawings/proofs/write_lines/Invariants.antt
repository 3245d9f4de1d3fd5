-- `write_lines`: the records of the lines before this one are there.
use Rattle.store_tables.specs.Tables.{arrays_in}
use Rattle.pages.specs.Pages.{Grown}
use Rattle.write_drawings.specs.Lists.{several, starting, line_bytes}
use Rattle.write_drawings.proofs.write_lines.Given as goal

abbrev pub invariant-loop-i : goal.invariant-loop-i
invariant-loop-i l =
    let d = l.view.drawing.now in
    Grown l.initial.page (several (starting (line_bytes d.counts.style d.counts.s l.view.x.now (arrays_in d.table)) l.from) l.i) l.page
