-- `compare_drawing`: header and points, each line, and the end record are the drawing file.
use Rattle.std.proofs.Common.{◌≡◌, ap, sym, ◌∙◌, arith}
use Rattle.rules.specs.Refusals.{answer}
use Rattle.rules.specs.Results.{handed_on}
use Rattle.rules.specs.DrawingFile.{compare_bytes}
use Rattle.store_tables.specs.Tables.{arrays_in}
use Rattle.write_drawings.specs.Files.{file_is}
use Rattle.write_drawings.proofs.Compared.{head_passed, head_stopped, lines_passed, lines_stopped, end_decides}
use Rattle.write_drawings.proofs.compare_drawing.Goals as goal

pub returns-in_err-at : goal.returns-in_err-at
returns-in_err-at c = λ p fin.
    let v = c.args.view.now in
    handed_on c.from_residual.result _ c.from_residual.ensures.1 ∙
    head_stopped v.x.now (arrays_in v.drawing.now.table) v.drawing.now.counts c.args.file.now (sym c.compare_head.ensures ∙ c.in_err-at.was) ∙
    ap (λ b. answer (compare_bytes 0 c.args.file.now b)) (file_is fin)

pub loop-from-init : goal.loop-from-init
loop-from-init c =
    let v = c.args.view.now in
    record {
      passed = head_passed v.x.now (arrays_in v.drawing.now.table) v.drawing.now.counts c.args.file.now (sym c.compare_head.ensures ∙ c.in_ok-at.was);
      within = omega arith;
    }

pub compare_lines-requires-clause-part : goal.compare_lines-requires-clause-part
compare_lines-requires-clause-part c = (c.loop-from.invariant.passed.within, omega (arith, c.min-count.ensures), omega (arith, c.min-count.ensures, c.loop-from-test.true))

pub returns-in_err-at-2 : goal.returns-in_err-at-2
returns-in_err-at-2 c = λ p fin.
    let v = c.args.view.now in
    handed_on c.from_residual-in_err-at-2.result _ c.from_residual-in_err-at-2.ensures.1 ∙
    lines_stopped v.x.now (arrays_in v.drawing.now.table) v.drawing.now.counts c.args.file.now c.loop-from.from c.min-count.result c.loop-from.invariant.passed (omega (arith, c.min-count.ensures, c.loop-from-test.true)) (sym c.compare_lines.ensures ∙ c.in_err-at-2.was) ∙
    ap (λ b. answer (compare_bytes 0 c.args.file.now b)) (file_is fin)

pub loop-from-preserved : goal.loop-from-preserved
loop-from-preserved c =
    let v = c.args.view.now in
    record {
      passed = lines_passed v.x.now (arrays_in v.drawing.now.table) v.drawing.now.counts c.args.file.now c.loop-from.from c.min-count.result c.loop-from.invariant.passed (sym c.compare_lines.ensures ∙ c.in_ok-at-2.was);
      within = omega (arith, c.min-count.ensures, c.loop-from-test.true);
    }

pub compare_last-requires : goal.compare_last-requires
compare_last-requires c = c.loop-from.invariant.passed.within

pub returns : goal.returns
returns c = λ p fin.
    let v = c.args.view.now in
    let n = v.drawing.now.counts in
    let end : c.loop-from.from ≡ n.lines = omega (arith, c.loop-from.invariant.within) in
    c.compare_last.ensures ∙
    end_decides v.x.now (arrays_in v.drawing.now.table) n c.args.file.now (rw end at c.loop-from.invariant.passed) ∙
    ap (λ b. answer (compare_bytes 0 c.args.file.now b)) (file_is fin)
