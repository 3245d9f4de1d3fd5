-- `drawing_file`: a drawing with all its points is whole.
use Rattle.std.proofs.Common.{◌∙◌, sym}
use Rattle.write_files.specs.Finishing.{late, whole_late}
use Rattle.write_files.specs.Outputs.{no_less}
use Rattle.write_files.proofs.drawing_file.Goals as goal

pub returns : goal.returns
returns c = λ q r t.
    let all = no_less _ _ _ _ (sym c.finished.ensures ∙ c.in_ok-finished.was) in
    rw (late t _ all) (c.put_drawing.ensures _ (whole_late t r all) t)
