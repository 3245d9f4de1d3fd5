-- `put_point`: the entries of the lines before this one are written.
use Rattle.std.specs.Prelude.{◌∷◌, length, map, take}
use Rattle.rules.specs.Records.{bytes_of, entries_mark}
use Rattle.pages.specs.Pages.{Grown}
use Rattle.write_orders.specs.Writing.{word_for}
use Rattle.write_orders.proofs.put_point.Given as goal

abbrev pub invariant-loop-l : goal.invariant-loop-l
invariant-loop-l l = Grown l.fn.page (bytes_of (entries_mark ∷ length l.lines ∷ map word_for (take l.l-index l.lines))) l.page
