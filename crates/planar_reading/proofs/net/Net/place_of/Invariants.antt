-- `planar_reading::Net::place_of` meets its contract: no place from d on, up to the end of v's list, names u.
use Rattle.std.specs.Prelude.{ℕ, ◌+◌, ◌<◌, ◌≤◌, ◌≢◌, get_or}
use Rattle.planar_reading.proofs.net.Net.place_of.Given as goal

abbrev pub invariant-loop-d : goal.invariant-loop-d
invariant-loop-d l = (y : ℕ) → l.d ≤ y → y < get_or l.self.starts (l.v + 1) 0 → get_or l.self.neighbours y 0 ≢ l.u
