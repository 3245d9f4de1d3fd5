-- `put_drawing`: with its settled x the drawing is finished, and its bytes are written.
use Rattle.std.proofs.Common.{◌∙◌, sym, arith}
use Rattle.rules.specs.Results.{handed_on}
use Rattle.write_files.specs.Files.{need_is, finish, writable}
use Rattle.write_files.specs.Outputs.{short, no_less, full}
use Rattle.write_files.proofs.put_drawing.Goals as goal

pub returns-in_err-room : goal.returns-in_err-room
returns-in_err-room c = λ d w h.
    rw (handed_on c.from_residual.result _ c.from_residual.ensures.1)
    (short _ _ _ (rw (c.drawing_length-need.ensures ∙ need_is w h) at (sym c.room.ensures ∙ c.in_err-room.was)))

pub write_drawing-requires : goal.write_drawing-requires
write_drawing-requires c =
    let room = no_less _ _ _ _ (sym c.room.ensures ∙ c.in_ok-room.was) in
    writable c.requires c.settled-x.ensures (omega arith)

pub returns : goal.returns
returns c = λ d w h.
    let need = c.drawing_length-need.ensures ∙ need_is w h in
    let room = no_less _ _ _ _ (sym c.room.ensures ∙ c.in_ok-room.was) in
    full _ _ _ _ (omega arith) need (c.write_drawing.ensures d (finish w h c.settled-x.ensures))
