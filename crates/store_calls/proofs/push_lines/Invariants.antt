-- `push_lines` meets its contract: after i turns the lines of the entries 0 to i - 1 are there.
use Rattle.std.specs.Prelude.{◌≡◌}
use Rattle.store_links.specs.Storing.{filled, new_line}
use Rattle.store_calls.proofs.push_lines.Given as goal

abbrev pub invariant-loop-i : goal.invariant-loop-i
invariant-loop-i l = l.lines ≡ filled (new_line l.c.style l.new l.rights l.lefts l.from l.e) l.initial.lines l.c.lines l.i
