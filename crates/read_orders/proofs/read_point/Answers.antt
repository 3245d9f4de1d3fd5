-- `read_orders::read_point` meets its contract: the record, then the answer of the call, or the refusal of a record that is too long for one.
use Rattle.rules.specs.Results.{handed_on}
use Rattle.read_orders.proofs.Rests.{point_bad, stopped-long, stopped, went}
use Rattle.read_orders.proofs.read_point.Goals as goal

pub returns-in_err-record : goal.returns-in_err-record
returns-in_err-record c =
    rw (handed_on c.from_residual.result _ c.from_residual.ensures.1)
    (λ d h. point_bad c.args.here.now.file.now c.args.here.now.at _ _ c.in_err-record.ensures d)

pub returns-then-record-gt-POINTS : goal.returns-then-record-gt-POINTS
returns-then-record-gt-POINTS c =
    let m = c.moved_to-entries.ensures in
    let long = rw (m.same_file, m.place) at c.judge_long.ensures in
    rw c.at.ensures (λ d h. stopped-long c.in_ok-record.ensures d (long d h))

pub returns-in-Ok : goal.returns-in-Ok
returns-in-Ok c =
    let m = c.moved_to-entries.ensures in
    let copied = rw (m.same_file, m.place) at c.copy_numbers.ensures in
    (c.in_ok-record.ensures.room, λ d h. went c.in_ok-record.ensures d copied h (rw c.in-Ok.is at c.add.ensures))

pub returns-in-Err : goal.returns-in-Err
returns-in-Err c =
    let m = c.moved_to-entries.ensures in
    let copied = rw (m.same_file, m.place) at c.copy_numbers.ensures in
    rw c.at-in-Err.ensures (λ d h. stopped c.in_ok-record.ensures d copied h (rw c.in-Err.is at c.add.ensures))
