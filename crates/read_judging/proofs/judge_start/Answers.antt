-- `read_judging::judge_start` meets its contract: each return gives the answer of the first test that fails.
use Rattle.std.proofs.Common.{sym}
use Rattle.read_judging.proofs.Starts.{first_other, second_of_2, second_other, third_other, all_there, fourth_of_3, all_begun}
use Rattle.read_judging.proofs.judge_start.Goals as goal

pub returns-then-not-line_joins : goal.returns-then-not-line_joins
returns-then-not-line_joins c = rw c.at.ensures (first_other _ _ _ _ c.requires.0 c.requires.1 c.line_size-size.result c.line_size-size.ensures.value (sym c.if-not-line_joins.ensures))

pub returns-then-word_at-eq2 : goal.returns-then-word_at-eq2
returns-then-word_at-eq2 c =
    rw c.at-then-word_at-eq2.ensures
    (second_of_2 _ _ _ _ c.requires.0 c.requires.1 c.line_size-size.result c.line_size-size.ensures.value (sym c.if-not-line_joins.ensures) _ (rw c.moved_to-second.ensures.place at c.word_at.ensures)
    c.if-word_at-eq2.true)

pub returns-then-not-line_joins-2 : goal.returns-then-not-line_joins-2
returns-then-not-line_joins-2 c =
    let s = c.moved_to-second.ensures in
    rw (c.at-then-not-line_joins-2.ensures, s.place)
    (second_other _ _ _ _ c.requires.0 c.requires.1 c.line_size-size.result c.line_size-size.ensures.value (sym c.if-not-line_joins.ensures) _ (rw s.place at c.word_at.ensures)
    c.if-word_at-eq2.false (rw (s.same_file, s.place) at (sym c.if-not-line_joins-2.ensures)))

pub returns-then-not-line_joins-3 : goal.returns-then-not-line_joins-3
returns-then-not-line_joins-3 c =
    let s = c.moved_to-second.ensures in
    let t = c.moved_to-third.ensures in
    rw (c.at-then-not-line_joins-3.ensures, s.place)
    (third_other _ _ _ _ c.requires.0 c.requires.1 c.line_size-size.result c.line_size-size.ensures.value (sym c.if-not-line_joins.ensures) _ (rw s.place at c.word_at.ensures)
    c.if-word_at-eq2.false (rw (s.same_file, s.place) at (sym c.if-not-line_joins-2.ensures)) (rw (t.same_file, t.place, s.place) at (sym c.if-not-line_joins-3.ensures)))

pub returns-then-left-eq3 : goal.returns-then-left-eq3
returns-then-left-eq3 c =
    let s = c.moved_to-second.ensures in
    let t = c.moved_to-third.ensures in
    all_there _ _ _ _ c.requires.0 c.requires.1 c.line_size-size.result c.line_size-size.ensures.value (sym c.if-not-line_joins.ensures) _ (rw s.place at c.word_at.ensures)
    c.if-word_at-eq2.false (rw (s.same_file, s.place) at (sym c.if-not-line_joins-2.ensures)) (rw (t.same_file, t.place, s.place) at (sym c.if-not-line_joins-3.ensures)) c.if-left-eq3.true

pub returns-then-word_at-eq3 : goal.returns-then-word_at-eq3
returns-then-word_at-eq3 c =
    let s = c.moved_to-second.ensures in
    let t = c.moved_to-third.ensures in
    rw (c.at-then-word_at-eq3.ensures, s.place)
    (fourth_of_3 _ _ _ _ c.requires.0 c.requires.1 c.line_size-size.result c.line_size-size.ensures.value (sym c.if-not-line_joins.ensures) _ (rw s.place at c.word_at.ensures)
    c.if-word_at-eq2.false (rw (s.same_file, s.place) at (sym c.if-not-line_joins-2.ensures)) (rw (t.same_file, t.place, s.place) at (sym c.if-not-line_joins-3.ensures))
    c.if-left-eq3.false _ (rw (t.place, s.place) at c.word_at-2.ensures) c.if-word_at-eq3.true)

pub returns : goal.returns
returns c =
    let s = c.moved_to-second.ensures in
    let t = c.moved_to-third.ensures in
    all_begun _ _ _ _ c.requires.0 c.requires.1 c.line_size-size.result c.line_size-size.ensures.value (sym c.if-not-line_joins.ensures) _ (rw s.place at c.word_at.ensures)
    c.if-word_at-eq2.false (rw (s.same_file, s.place) at (sym c.if-not-line_joins-2.ensures)) (rw (t.same_file, t.place, s.place) at (sym c.if-not-line_joins-3.ensures))
    c.if-left-eq3.false _ (rw (t.place, s.place) at c.word_at-2.ensures) c.if-word_at-eq3.false
