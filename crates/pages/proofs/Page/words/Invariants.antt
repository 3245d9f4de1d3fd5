-- `pages::Page::words`: the numbers before this one are put.
use Rattle.std.specs.Prelude.{take}
use Rattle.rules.specs.Records.{bytes_of}
use Rattle.pages.specs.Pages.{Grown}
use Rattle.pages.proofs.Page.words.Given as goal

abbrev pub invariant-loop-w : goal.invariant-loop-w
invariant-loop-w l = Grown l.initial.self (bytes_of (take l.w-index l.ws)) l.self
