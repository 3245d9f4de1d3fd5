-- The answer is that of the entries from i on: entry i refuses, or has passed.
use Rattle.std.proofs.Common.{refl, sym, ap, arith, ◌∙◌}
use Rattle.rules.specs.Refusals.{answer}
use Rattle.rules.specs.Results.{handed_on}
use Rattle.store_tables.specs.Tables.{arrays_in}
use Rattle.store_judging.specs.Passed.{entry-refused, entry_passed}
use Rattle.store_judging.proofs.judge_entries.Goals as goal

pub returns-in_err-judge_entry : goal.returns-in_err-judge_entry
returns-in_err-judge_entry c =
    let d = c.args.d.now in
    let e = entry-refused (arrays_in d.table).owner c.args.e.now d.counts.k c.loop-i.i _ c.loop-i-test.true refl c.judge_entry.ensures _ c.in_err-judge_entry.was in
    handed_on c.from_residual.result _ c.from_residual.ensures.1 ∙ sym (ap answer (c.loop-i.invariant.1 ∙ e))

pub loop-i-preserved : goal.loop-i-preserved
loop-i-preserved c =
    let d = c.args.d.now in
    (omega arith, c.loop-i.invariant.1 ∙ entry_passed (arrays_in d.table).owner c.args.e.now d.counts.k c.loop-i.i _ c.loop-i-test.true refl c.judge_entry.ensures c.in_ok-judge_entry.was)
