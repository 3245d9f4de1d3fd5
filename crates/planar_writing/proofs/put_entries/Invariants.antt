-- `planar_writing::put_entries` meets its contract: the numbers of the entries before this one are put.
use Rattle.std.specs.Prelude.{take}
use Rattle.rules.specs.Records.{bytes_of}
use Rattle.pages.specs.Pages.{Grown}
use Rattle.planar_writing.specs.Words.{numbers_of}
use Rattle.planar_writing.proofs.put_entries.Given as goal

abbrev pub invariant-loop-v : goal.invariant-loop-v
invariant-loop-v l = Grown l.initial.page (bytes_of (numbers_of l.by_point (take l.v-index l.entries))) l.page
