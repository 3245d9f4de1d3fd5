-- `read_start::read_second` meets its contract: each return is a case of the record and its tests.
use Rattle.std.proofs.Common.{sym}
use Rattle.read_start.proofs.Starts.{second_count, second_in, counted, none_both}
use Rattle.read_start.proofs.read_second.Goals as goal

pub returns-then-entries-ne1 : goal.returns-then-entries-ne1
returns-then-entries-ne1 c = rw c.at-then-entries-ne1.ensures (second_count c.in_ok-entries.ensures (sym (rw (c.moved_to.ensures.same_file, c.moved_to.ensures.place) at c.if-any_both.ensures)) c.if-entries-ne1.true)

pub returns : goal.returns
returns c =
    second_in (counted c.in_ok-entries.ensures c.if-entries-ne1.false) (none_both c.args.here.now.file.now _ c.if-entries-ne1.false (sym (rw (c.moved_to.ensures.same_file, c.moved_to.ensures.place) at c.if-any_both.ensures))) c.word_at-a.ensures
    (rw c.entry_of.ensures at c.if-entry_of-ne1.false) c.read_third.result (rw (c.moved_to-2.ensures.same_file, c.moved_to-2.ensures.place) at c.read_third.ensures)
