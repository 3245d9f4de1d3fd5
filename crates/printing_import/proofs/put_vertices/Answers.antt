-- `printing_import::put_vertices` meets its contract: after i vertices their lines stand in the page.
use Rattle.std.proofs.Common.{ap, arith, rules, take_all}
use Rattle.planar_rules.specs.Programs.{vertex_lines}
use Rattle.printing_line.specs.Pages.{printed}
use Rattle.printing_import.specs.Lines.{lines_next}
use Rattle.printing_import.proofs.put_vertices.Goals as goal

pub loop-v-preserved : goal.loop-v-preserved
loop-v-preserved c =
    let before = c.loop-v.invariant in
    let put = c.put_vertex.ensures in
    (omega (arith, before.0, put.within), lines_next c.args.list.now c.loop-v.v-index (omega arith) before.1 put.exact)

pub returns : goal.returns
returns c =
    let all = ap vertex_lines (take_all c.loop-v.v-index c.args.list.now (omega arith)) in
    printed c.new-lines.ensures.at c.new-lines.ensures.bytes (rw all at c.loop-v.invariant.1) (search rules)
