-- `read_judging::judge_body` meets its contract: each return gives the answer of the first test that fails.
use Rattle.std.specs.Prelude.{ℕ, List, ◌≡◌}
use Rattle.std.proofs.Common.{sym, ◌∙◌}
use Rattle.rules.specs.declared.Style.{Style}
use Rattle.rules.specs.Refusals.{Answer, answer}
use Rattle.rules.specs.Styles.{line_numbers}
use Rattle.rules.specs.Records.{several, place_mark, line_mark, head_size}
use Rattle.rules.specs.Results.{handed_on}
use Rattle.read_records.specs.Cursors.{cursor, plain_shape}
use Rattle.read_records.specs.Marked.{record_tests, several-answer}
use Rattle.read_judging.specs.Files.{lines_from, line_count}
use Rattle.read_judging.proofs.Stages.{points_stop, points_there, lines_stop, lines_there, end_says}
use Rattle.read_judging.proofs.judge_body.Goals as goal

-- what the records of the points answer, and those of the lines, read at `at` in g
points : {r a : Answer (Unit {0})} (f : List ℕ) (n : ℕ) → r ≡ answer (several n (plain_shape place_mark 2) (cursor f head_size)) → r ≡ a → answer (record_tests f place_mark 2 n head_size) ≡ a
points f n h k = sym (h ∙ several-answer f place_mark 2 n head_size) ∙ k

lines : {r a : Answer (Unit {0})} (f g : List ℕ) (τ : Style) (n numbers at : ℕ) → r ≡ answer (several (line_count n) (plain_shape line_mark numbers) (cursor g at)) → r ≡ a →
    g ≡ f → at ≡ lines_from n → numbers ≡ line_numbers τ → answer (record_tests f line_mark (line_numbers τ) (line_count n) (lines_from n)) ≡ a
lines f g τ n numbers at h k same is is_numbers =
    sym (rw (same, is, is_numbers) at (h ∙ several-answer g line_mark numbers (line_count n) at)) ∙ k

pub returns-in_err-records : goal.returns-in_err-records
returns-in_err-records c =
    let h = points c.args.f.now c.args.n c.records.ensures c.in_err-records.was in
    handed_on c.from_residual.result _ c.from_residual.ensures.1 ∙ sym h ∙ points_stop _ _ _ c.requires.0 _ h

pub moved_to-lines-requires : goal.moved_to-lines-requires
moved_to-lines-requires c = points_there c.args.style _ _ c.requires.0 (points c.args.f.now c.args.n c.records.ensures c.in_ok-records.was)

pub returns-in_err-records-2 : goal.returns-in_err-records-2
returns-in_err-records-2 c =
    let m = c.moved_to-lines.ensures in
    let h = lines c.args.f.now _ c.args.style c.args.n _ _ c.records-2.ensures c.in_err-records-2.was m.same_file m.place c.line_numbers.ensures.value in
    handed_on c.from_residual-in_err-records-2.result _ c.from_residual-in_err-records-2.ensures.1 ∙ sym h ∙
    lines_stop _ _ _ c.requires.0 (points c.args.f.now c.args.n c.records.ensures c.in_ok-records.was) _ h

pub moved_to-end-requires : goal.moved_to-end-requires
moved_to-end-requires c =
    let m = c.moved_to-lines.ensures in
    rw (m.same_file, m.place, c.line_size.ensures.value)
    (lines_there c.args.style c.args.f.now c.args.n c.requires.0 (points c.args.f.now c.args.n c.records.ensures c.in_ok-records.was)
    (lines c.args.f.now _ c.args.style c.args.n _ _ c.records-2.ensures c.in_ok-records-2.was m.same_file m.place c.line_numbers.ensures.value))

pub returns : goal.returns
returns c =
    let m = c.moved_to-lines.ensures in
    let e = c.moved_to-end.ensures in
    rw (e.same_file, e.place, m.same_file, m.place, c.line_size.ensures.value) at c.end.ensures ∙
    end_says _ _ _ c.requires.0 (points c.args.f.now c.args.n c.records.ensures c.in_ok-records.was)
    (lines c.args.f.now _ c.args.style c.args.n _ _ c.records-2.ensures c.in_ok-records-2.was m.same_file m.place c.line_numbers.ensures.value)
