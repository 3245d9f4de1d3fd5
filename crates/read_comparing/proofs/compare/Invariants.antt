-- `read_comparing::compare` meets its contract. The loop's invariant: the answer is that of the bytes from i on.
use Rattle.std.specs.Prelude.{◌≡◌}
use Rattle.rules.specs.DrawingFile.{compare_bytes}
use Rattle.read_comparing.specs.Comparing.{from}
use Rattle.read_comparing.proofs.compare.Given as goal

abbrev pub invariant-loop-i : goal.invariant-loop-i
invariant-loop-i l = compare_bytes 0 l.a l.b ≡ from l.a l.b l.i
