-- `planar_writing::put_list` meets its contract: after i turns the first i vertices stand in the buffer.
use Rattle.std.specs.Prelude.{suc, ◌≡◌, map, length, take}
use Rattle.words.specs.Writing.{Stored}
use Rattle.planar_writing.proofs.put_list.Given as goal

abbrev pub invariant-loop-i : goal.invariant-loop-i
invariant-loop-i l = (length l.out ≡ length l.initial.out) × Stored l.initial.out 0 (take l.i (map suc l.vertices)) l.out
