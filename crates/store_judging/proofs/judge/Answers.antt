-- Each return gives the answer of the first test that fails.
use Rattle.std.proofs.Common.{Err, ap, sym, ◌∙◌, arith}
use Rattle.rules.specs.Results.{accepted, handed_on}
use Rattle.store_tables.specs.Tables.{arrays_in}
use Rattle.store_judging.specs.Passed.{entries-within, within_up}
use Rattle.store_judging.proofs.Stages.{finished, few, at_entries, at_run, not_last, not_whole, whole}
use Rattle.store_judging.proofs.judge.Goals.{else-k-n-via-then-k-n+else-e-m, else-k-n-via-else-k-n}
use Rattle.store_judging.proofs.judge.Goals as goal

pub returns-then-n-k : goal.returns-then-n-k
returns-then-n-k c = ap Err c.at.ensures ∙ finished _ _ _ _ _ _ (omega arith)

pub returns-then-e-lt2 : goal.returns-then-e-lt2
returns-then-e-lt2 c = ap Err c.at-then-e-lt2.ensures ∙ few _ _ _ _ _ _ (omega arith) (omega arith)

pub returns-in_err-judge_entries : goal.returns-in_err-judge_entries
returns-in_err-judge_entries c =
    let was = c.in_err-judge_entries.was in
    handed_on c.from_residual.result _ c.from_residual.ensures.1 ∙ sym was ∙ c.judge_entries.ensures ∙ at_entries _ _ _ _ _ _ (omega arith) (omega arith) _ (sym c.judge_entries.ensures ∙ was)

pub judge_run-requires : goal.judge_run-requires
judge_run-requires c =
    let d = c.args.d.now in
    let e = c.args.e.now in
    within_up d.counts.k 1024 e c.requires (entries-within (arrays_in d.table).owner d.counts.k 0 e (accepted _ (sym c.judge_entries.ensures ∙ c.in_ok-judge_entries.was)).is)

pub returns-in_err-judge_run : goal.returns-in_err-judge_run
returns-in_err-judge_run c =
    let was = c.in_err-judge_run.was in
    handed_on c.from_residual-in_err-judge_run.result _ c.from_residual-in_err-judge_run.ensures.1 ∙ sym was ∙ c.judge_run.ensures
    ∙ at_run _ _ _ _ _ _ (omega arith) (omega arith) (sym c.judge_entries.ensures ∙ c.in_ok-judge_entries.was) _ (sym c.judge_run.ensures ∙ was)

pub returns-then-e-m : goal.returns-then-e-m
returns-then-e-m c =
    ap Err c.at-then-e-m.ensures
    ∙ not_whole _ _ _ _ _ _ (omega arith) (omega arith) (sym c.judge_entries.ensures ∙ c.in_ok-judge_entries.was) (sym c.judge_run.ensures ∙ c.in_ok-judge_run.was) (omega arith) (omega arith)

pub returns : goal.returns
returns c =
    let a = c.args in
    let entries = sym c.judge_entries.ensures ∙ c.in_ok-judge_entries.was in
    let run = sym c.judge_run.ensures ∙ c.in_ok-judge_run.was in
    elim c.else-k-n.branch [
      | else-k-n-via-then-k-n+else-e-m w ↦ whole _ _ _ _ _ _ (omega arith) (omega arith) entries run (omega (arith, w.if-k-n.true)) (omega (arith, w.if-e-m.false))
      | else-k-n-via-else-k-n w ↦ not_last _ _ _ _ _ _ (omega arith) (omega arith) entries run (omega (arith, w.if-k-n.false))
    ]
