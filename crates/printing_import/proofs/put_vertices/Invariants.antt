-- `printing_import::put_vertices`: after i vertices their lines stand in the page.
use Rattle.std.proofs.Common.{◌*◌, ◌≤◌, take}
use Rattle.planar_rules.specs.Programs.{vertex_lines}
use Rattle.pages.specs.Pages.{Grown}
use Rattle.printing_import.specs.Lines.{vertex_most}
use Rattle.printing_import.proofs.put_vertices.Given as goal

abbrev pub invariant-loop-v : goal.invariant-loop-v
invariant-loop-v l = (l.lines.at ≤ vertex_most * l.v-index) × Grown l.initial.lines (vertex_lines (take l.v-index l.list)) l.lines
