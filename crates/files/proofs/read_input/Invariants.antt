use Rattle.std.proofs.Common.{length, ◌-◌, ◌≤◌, take}
use Rattle.std.specs.Io.KnownBytes.{Consumes}
use Rattle.files.proofs.read_input.Given as goal

abbrev pub invariant-loop-bytes : goal.invariant-loop-bytes
invariant-loop-bytes g l = (l.bytes ≤ length l.buffer) × Consumes (g.R.Read.remaining l.fn.from) (g.R.Read.remaining l.from) (take l.bytes l.buffer)

abbrev pub decreases-loop-bytes : goal.decreases-loop-bytes
decreases-loop-bytes g l = length l.initial.buffer - l.bytes
