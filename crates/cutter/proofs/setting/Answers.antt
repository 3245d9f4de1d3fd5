-- `setting` meets its contract: the two refusals in order, and the setting.
use Rattle.std.proofs.Common.{refl, sym, ◌∙◌}
use Rattle.rules.specs.Results.{handed_on}
use Rattle.tool.specs.Laws.{good-tool, bad_tool}
use Rattle.cutter.specs.Setting.{bad, early, missing, finishes}
use Rattle.cutter.proofs.setting.Goals as goal

pub returns-in_err-tool : goal.returns-in_err-tool
returns-in_err-tool c =
    let none = c.in_err-tool.ensures.ok_part in
    rw (missing c.check_tool.result c.from_residual.result _ c.at.result none c.in_err-tool.ensures.value c.from_residual.ensures.1, c.at.ensures) (bad (bad_tool c.args.t (sym c.check_tool.ensures ∙ none)))

pub returns-in_err-finished : goal.returns-in_err-finished
returns-in_err-finished c =
    let late = rw c.in_err-finished.was at (finishes c.args.c c.finished.result c.finished.ensures) in
    rw (handed_on c.from_residual-in_err-finished.result _ c.from_residual-in_err-finished.ensures.1, late.1) (early (good-tool c.args.t _ (sym c.check_tool.ensures ∙ c.in_ok-tool.ensures.ok_part)).0 late.0)

pub invariant_of-result-clause-in_range : goal.invariant_of-result-clause-in_range
invariant_of-result-clause-in_range c = (good-tool c.args.t _ (sym c.check_tool.ensures ∙ c.in_ok-tool.ensures.ok_part)).2

pub returns : goal.returns
returns c =
    let g = good-tool c.args.t _ (sym c.check_tool.ensures ∙ c.in_ok-tool.ensures.ok_part) in
    record { is = g.0; whole = rw c.in_ok-finished.was at (finishes c.args.c c.finished.result c.finished.ensures); scale = refl; tool = g.1 }
