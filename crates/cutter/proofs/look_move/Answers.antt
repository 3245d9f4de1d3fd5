-- `look_move` meets its contract: the three refusals in order, and the move.
use Rattle.std.proofs.Common.{arith}
use Rattle.rules.specs.Results.{handed_on}
use Rattle.rules.proofs.Dwelling.{has_pitch}
use Rattle.tool.specs.Checking.{whole_tool}
use Rattle.cutter_grooves.specs.Grid.{scale}
use Rattle.cutter.specs.Setting.{missing}
use Rattle.cutter.specs.Seen.{seen_not, seen_none, seen_within, seen_made}
use Rattle.cutter.proofs.look_move.Goals as goal

pub returns-in_err-by : goal.returns-in_err-by
returns-in_err-by c q h = rw (handed_on c.from_residual.result _ c.from_residual.ensures.1) (seen_not h c.args.t c.args.number _ c.in_err-by.ensures)

pub returns-in_err-found : goal.returns-in_err-found
returns-in_err-found c q h =
    let set = c.in_ok-by.ensures in
    let none = c.in_err-found.ensures.ok_part in
    let past = rw none at (c.find.ensures q (whole_tool c.args.t) h (has_pitch (whole_tool c.args.t) set.is)) in
    rw (missing c.find.result c.from_residual-in_err-found.result _ c.at.result none c.in_err-found.ensures.value c.from_residual-in_err-found.ensures.1, c.at.ensures) (seen_none h c.args.t c.in_ok-by.by set c.args.number past)

pub groove_of-groove-requires-clause-there : goal.groove_of-groove-requires-clause-there
groove_of-groove-requires-clause-there c =
    let h = c.requires.came.is in
    let f = rw c.in_ok-found.ensures.ok_part at (c.find.ensures _ (whole_tool c.args.t) h (has_pitch (whole_tool c.args.t) c.in_ok-by.ensures.is)) in
    omega (arith, f.within, h.stores.lines)

pub overflow_sub-number : goal.overflow_sub-number
overflow_sub-number c =
    let h = c.requires.came.is in
    let f = rw c.in_ok-found.ensures.ok_part at (c.find.ensures _ (whole_tool c.args.t) h (has_pitch (whole_tool c.args.t) c.in_ok-by.ensures.is)) in
    f.low

pub move_at-requires-clause-there : goal.move_at-requires-clause-there
move_at-requires-clause-there c =
    let h = c.requires.came.is in
    let set = c.in_ok-by.ensures in
    let f = rw c.in_ok-found.ensures.ok_part at (c.find.ensures _ (whole_tool c.args.t) h (has_pitch (whole_tool c.args.t) set.is)) in
    seen_within h c.args.t c.in_ok-by.by set c.args.number c.in_ok-found.found f c.groove_of-groove.result (c.groove_of-groove.ensures.is _ h) (scale c.requires.came).0

pub returns : goal.returns
returns c q h =
    let set = c.in_ok-by.ensures in
    let f = rw c.in_ok-found.ensures.ok_part at (c.find.ensures q (whole_tool c.args.t) h (has_pitch (whole_tool c.args.t) set.is)) in
    seen_made h c.args.t c.in_ok-by.by set c.args.number c.in_ok-found.found f c.groove_of-groove.result (c.groove_of-groove.ensures.is q h) c.move_at.result c.move_at.ensures
