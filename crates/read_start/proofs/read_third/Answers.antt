-- `read_start::read_third` meets its contract: each return is a case of the record and its tests.
use Rattle.std.specs.Prelude.{[], ◌∷◌}
use Rattle.std.proofs.Common.{sym}
use Rattle.rules.specs.Readings.{entry_of}
use Rattle.read_start.proofs.Starts.{third_count, third_second, third_in, counted, none_both}
use Rattle.read_start.proofs.read_third.Goals as goal

pub returns-then-entries-ne2 : goal.returns-then-entries-ne2
returns-then-entries-ne2 c = rw c.at-then-entries-ne2.ensures (third_count c.in_ok-entries.ensures (sym (rw (c.moved_to.ensures.same_file, c.moved_to.ensures.place) at c.if-any_both.ensures)) c.if-entries-ne2.true (entry_of c.args.a ∷ []))

pub returns-then-entry_of-ne2 : goal.returns-then-entry_of-ne2
returns-then-entry_of-ne2 c =
    rw c.at-then-entry_of-ne2.ensures
    (third_second (counted c.in_ok-entries.ensures c.if-entries-ne2.false) (none_both c.args.here.now.file.now _ c.if-entries-ne2.false (sym (rw (c.moved_to.ensures.same_file, c.moved_to.ensures.place) at c.if-any_both.ensures))) c.word_at-b.ensures c.word_at-c.ensures
    (rw c.entry_of.ensures at c.if-entry_of-ne1.false) (rw c.entry_of-2.ensures at c.if-entry_of-ne2.true) (entry_of c.args.a ∷ []))

pub returns : goal.returns
returns c =
    third_in (counted c.in_ok-entries.ensures c.if-entries-ne2.false) (none_both c.args.here.now.file.now _ c.if-entries-ne2.false (sym (rw (c.moved_to.ensures.same_file, c.moved_to.ensures.place) at c.if-any_both.ensures))) c.word_at-b.ensures c.word_at-c.ensures
    (rw c.entry_of.ensures at c.if-entry_of-ne1.false) c.args.a c.requires (rw c.entry_of-2.ensures at c.if-entry_of-ne2.false)
