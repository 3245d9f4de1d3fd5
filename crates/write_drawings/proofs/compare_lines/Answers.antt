-- `compare_lines`: what was written into the buffer is compared.
use Rattle.std.proofs.Common.{length, ap, ◌∙◌, arith, rules}
use Rattle.read_comparing.specs.Parts.{part_compared}
use Rattle.write_drawings.specs.Fitting.{lines-ready}
use Rattle.write_drawings.proofs.Compared.{part_there, part_fits}
use Rattle.write_drawings.proofs.compare_lines.Goals as goal

pub write_lines-requires : goal.write_lines-requires
write_lines-requires c = lines-ready c.requires.held.finished _ _ _ _ (omega (arith, c.requires.part.2)) (omega (arith, c.new-page.ensures.at, ap length c.new-page.ensures.bytes, part_fits c.args.view.now.drawing.now.counts.style c.args.count c.requires.part.1))

pub returns : goal.returns
returns c = c.compare_part.ensures ∙ ap (part_compared c.args.file.now c.args.at) (part_there c.new-page.ensures.at c.new-page.ensures.bytes c.write_lines.ensures (search rules))
