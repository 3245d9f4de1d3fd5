-- What the reader gave is a whole drawing, whose bytes are compared and whose order file is then written, or a refusal.
use Rattle.rules.specs.Results.{handed_on}
use Rattle.panel.specs.Undrawing.{lines-refused, ended, bytes-differ, bytes_same}
use Rattle.panel.proofs.undraw.Goals as goal

pub returns-in_err-read_lines-clause-wrote : goal.returns-in_err-read_lines-clause-wrote
returns-in_err-read_lines-clause-wrote c =
    rw (handed_on c.from_residual.result _ c.from_residual.ensures.1) (lines-refused _ _ (rw c.in_err-read_lines.was at c.read_lines.ensures) _)

pub compare_drawing-requires : goal.compare_drawing-requires
compare_drawing-requires c = ended _ _ (rw c.in_ok-read_lines.was at c.read_lines.ensures)

pub returns-in_err-compare_drawing-clause-wrote : goal.returns-in_err-compare_drawing-clause-wrote
returns-in_err-compare_drawing-clause-wrote c =
    rw (handed_on c.from_residual-in_err-compare_drawing.result _ c.from_residual-in_err-compare_drawing.ensures.1)
    (bytes-differ _ _ (rw c.in_ok-read_lines.was at c.read_lines.ensures) c.compare_drawing.ensures c.in_err-compare_drawing.was _)

pub put_order-requires : goal.put_order-requires
put_order-requires c = ended _ _ (rw c.in_ok-read_lines.was at c.read_lines.ensures)

pub returns-clause-wrote : goal.returns-clause-wrote
returns-clause-wrote c = bytes_same _ _ (rw c.in_ok-read_lines.was at c.read_lines.ensures) c.compare_drawing.ensures c.in_ok-compare_drawing.was c.put_order.ensures
