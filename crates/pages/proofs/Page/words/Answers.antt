-- `pages::Page::words`: behind the numbers before this one stands this one.
use Rattle.std.proofs.Common.{◌∷◌, [], take, arith}
use Rattle.std.proofs.lemmas.List.{take_more, length-take-le}
use Rattle.pages.specs.Pages.{words_both, pasted}
use Rattle.pages.proofs.Page.words.Goals as goal

pub word-requires : goal.word-requires
word-requires c =
    let i = c.loop-w.w-index in
    let ws = c.args.ws.now in
    omega (arith, c.requires, c.loop-w.invariant.size, (pasted (take i ws) c.loop-w.invariant).behind, length-take-le i ws (omega arith))

pub loop-w-preserved : goal.loop-w-preserved
loop-w-preserved c = rw (take_more c.args.ws.now c.loop-w.w-index 0 (omega arith)) (words_both _ (_ ∷ []) c.loop-w.invariant c.word.ensures)
