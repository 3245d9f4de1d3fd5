-- `read_judging::judge_head` meets its contract: each return gives the answer of the first test that fails.
use Rattle.std.specs.Prelude.{ℕ, List, ◌≡◌, Err}
use Rattle.std.proofs.Common.{ap, sym, ◌∙◌}
use Rattle.rules.specs.declared.Style.{Style}
use Rattle.rules.specs.Basics.{between}
use Rattle.rules.specs.Refusals.{Answer, answer}
use Rattle.rules.specs.Records.{several}
use Rattle.rules.specs.Results.{handed_on}
use Rattle.rules.specs.Styles.{drawing_mark}
use Rattle.read_records.specs.Cursors.{cursor, plain_shape}
use Rattle.read_records.specs.Marked.{record_tests, several-answer}
use Rattle.read_judging.proofs.Stages.{head-stops, n_out, s_out, head-good}
use Rattle.read_judging.proofs.judge_head.Goals as goal

-- what the header's record answers
said : {r a : Answer (Unit {0})} (f : List ℕ) (τ : Style) (m : ℕ) → r ≡ answer (several 1 (plain_shape m 4) (cursor f 0)) → r ≡ a → m ≡ drawing_mark τ → answer (record_tests f (drawing_mark τ) 4 1 0) ≡ a
said f τ m h g k = sym (h ∙ several-answer f m 4 1 0 ∙ ap (λ (mark : ℕ). answer (record_tests f mark 4 1 0)) k) ∙ g

pub returns-in_err-records : goal.returns-in_err-records
returns-in_err-records c =
    let h = said c.args.f.now c.args.style _ c.records.ensures c.in_err-records.was c.drawing_mark.ensures in
    handed_on c.from_residual.result _ c.from_residual.ensures.1 ∙ sym h ∙ head-stops _ _ _ h

pub returns-then-not-lies : goal.returns-then-not-lies
returns-then-not-lies c =
    ap Err c.at.ensures ∙
    n_out _ _ (said c.args.f.now c.args.style _ c.records.ensures c.in_ok-records.was c.drawing_mark.ensures)
    (sym (c.if-not-lies.ensures ∙ ap (between 3 1024) c.word_at.ensures))

pub returns-then-not-lies-2 : goal.returns-then-not-lies-2
returns-then-not-lies-2 c =
    ap Err c.at-then-not-lies-2.ensures ∙
    s_out _ _ (said c.args.f.now c.args.style _ c.records.ensures c.in_ok-records.was c.drawing_mark.ensures)
    (sym (c.if-not-lies.ensures ∙ ap (between 3 1024) c.word_at.ensures))
    (sym (c.if-not-lies-2.ensures ∙ ap (between 1 8) c.word_at-2.ensures))

pub returns : goal.returns
returns c =
    head-good _ _ (said c.args.f.now c.args.style _ c.records.ensures c.in_ok-records.was c.drawing_mark.ensures)
    (sym (c.if-not-lies.ensures ∙ ap (between 3 1024) c.word_at.ensures))
    (sym (c.if-not-lies-2.ensures ∙ ap (between 1 8) c.word_at-2.ensures))
