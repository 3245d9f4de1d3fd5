-- `read_groups::take_group` meets its contract. The loop's invariant: the first i lines are the group's, and stand in e.
use Rattle.std.specs.Prelude.{◌≡◌, length}
use Rattle.read_groups.proofs.Taking.{Taking}
use Rattle.read_groups.proofs.take_group.Given as goal

abbrev pub invariant-loop-i : goal.invariant-loop-i
invariant-loop-i l = record {
  same_length : length l.e ≡ length l.initial.e;
  taking : Taking l.style l.lines.file.now l.lines.at l.left l.p l.e l.i;
}
