-- `put_point`: behind the entries before this one stands this one.
use Rattle.std.proofs.Common.{◌∷◌, [], length, map, take, arith}
use Rattle.std.proofs.lemmas.List.{map_more, length-map, length-take-le}
use Rattle.rules.specs.Records.{entries_mark}
use Rattle.pages.specs.Pages.{words_both, pasted}
use Rattle.store_links.specs.Opening.{no_line}
use Rattle.write_orders.specs.Writing.{word_for}
use Rattle.write_orders.proofs.put_point.Goals as goal

pub word-requires : goal.word-requires
word-requires c =
    let ls = c.args.lines.now in
    let i = c.loop-l.l-index in
    let written = entries_mark ∷ length ls ∷ map word_for (take i ls) in
    omega (arith, c.requires, c.loop-l.invariant.size, (pasted written c.loop-l.invariant).behind, length-map (take i ls) word_for, length-take-le i ls (omega arith))

pub loop-l-preserved : goal.loop-l-preserved
loop-l-preserved c =
    let ls = c.args.lines.now in
    rw (map_more word_for ls c.loop-l.l-index no_line (omega arith))
    (words_both (entries_mark ∷ length ls ∷ map word_for (take c.loop-l.l-index ls)) (_ ∷ []) c.loop-l.invariant (rw c.joined.ensures at c.word.ensures))
