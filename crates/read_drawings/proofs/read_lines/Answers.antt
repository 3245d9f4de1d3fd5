-- `read_drawings::read_lines` meets its contract: a refusal of the tests is the answer, and a file that passes them is read.
use Rattle.std.proofs.Common.{sym, ◌∙◌}
use Rattle.rules.specs.Results.{all_passed, handed_on}
use Rattle.read_drawings.specs.Whole.{file-passes}
use Rattle.read_drawings.proofs.Reading.{refused-early}
use Rattle.read_drawings.proofs.read_lines.Goals as goal

pub returns-in_err-judge_file : goal.returns-in_err-judge_file
returns-in_err-judge_file c =
    rw (handed_on c.from_residual.result _ c.from_residual.ensures.1)
    (refused-early c.args.style c.args.f.now (sym c.judge_file.ensures ∙ c.in_err-judge_file.was))

pub read_passed-requires : goal.read_passed-requires
read_passed-requires c = (file-passes _ _ (all_passed _ (sym c.judge_file.ensures ∙ c.in_ok-judge_file.was)), c.requires)
