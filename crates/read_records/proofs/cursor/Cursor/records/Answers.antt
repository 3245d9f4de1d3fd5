-- `read_records::Cursor::records` meets its contract. The loop's invariant: the first i records are there.
use Rattle.std.proofs.Common.{◌≡◌, Err, ap, sym, ◌∙◌, arith, rules}
use Rattle.read_records.proofs.Turns.{passed_none, stops_unmarked, stops_short, passed_more, passed_all}
use Rattle.read_records.proofs.cursor.Cursor.records.Goals as goal

pub loop-i-init : goal.loop-i-init
loop-i-init c = passed_none c.args.self.now.file.now _ _ _ _ c.args.self.now.within

pub overflow_mul-bytes-in-loop-i : goal.overflow_mul-bytes-in-loop-i
overflow_mul-bytes-in-loop-i c = omega (arith, c.loop-i.invariant.room)

pub overflow_add-self : goal.overflow_add-self
overflow_add-self c = omega (arith, c.loop-i.invariant.room)

pub moved_to-record-requires : goal.moved_to-record-requires
moved_to-record-requires c = c.loop-i.invariant.room

pub returns-in_err-mark : goal.returns-in_err-mark
returns-in_err-mark c =
    let same : c.from_residual.result ≡ Err c.in_err-mark.field-0.0 = search rules in
    same ∙ stops_unmarked c.loop-i.invariant c.loop-i-test.true c.moved_to-record.ensures.same_file c.moved_to-record.ensures.place _ (sym c.mark.ensures ∙ c.in_err-mark.was)

pub returns-then-left-bytes : goal.returns-then-left-bytes
returns-then-left-bytes c =
    ap Err c.at.ensures ∙
    stops_short c.loop-i.invariant c.loop-i-test.true c.moved_to-record.ensures.same_file c.moved_to-record.ensures.place (sym c.mark.ensures ∙ c.in_ok-mark.was) (omega (arith, c.left.ensures))

pub loop-i-preserved : goal.loop-i-preserved
loop-i-preserved c =
    passed_more c.loop-i.invariant c.loop-i-test.true c.moved_to-record.ensures.same_file c.moved_to-record.ensures.place (sym c.mark.ensures ∙ c.in_ok-mark.was) (omega (arith, c.left.ensures))

pub returns : goal.returns
returns c = passed_all c.loop-i.invariant c.loop-i-test.false
