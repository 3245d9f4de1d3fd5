-- `read_groups::take_group` meets its contract. The loop's invariant: the first i lines are the group's, and stand in e.
use Rattle.std.proofs.Common.{arith, rules}
use Rattle.read_groups.proofs.Taking.{taken_all, taken_some, taking_more}
use Rattle.read_groups.proofs.take_group.Goals as goal

pub returns-then-word_at-p : goal.returns-then-word_at-p
returns-then-word_at-p c =
    let here = rw c.line_size-size.ensures.value at c.moved_to-line.ensures.place in
    taken_some c.loop-i.invariant.taking c.loop-i-test.true c.requires.0 _ here _ (rw c.moved_to-line.ensures.same_file at c.word_at.ensures) c.if-word_at-p.true

pub loop-i-preserved : goal.loop-i-preserved
loop-i-preserved c =
    let here = rw c.line_size-size.ensures.value at c.moved_to-line.ensures.place in
    let file = c.moved_to-line.ensures.same_file in
    record {
      same_length = search rules;
      taking = taking_more c.loop-i.invariant.taking c.loop-i-test.true c.requires.0 _ here _ (rw file at c.word_at.ensures) c.if-word_at-p.false (omega (arith, c.requires.1, c.loop-i.invariant.same_length)) _ (rw file at c.entry_at.ensures);
    }

pub returns : goal.returns
returns c = taken_all c.loop-i.invariant.taking c.loop-i-test.false
