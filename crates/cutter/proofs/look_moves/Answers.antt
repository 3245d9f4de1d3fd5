-- `look_moves` meets its contract: the refusals in order, and all moves.
use Rattle.std.proofs.Common.{ap, arith, refl, length}
use Rattle.rules.specs.Moves.{Tool as WholeTool, all_moves}
use Rattle.rules.specs.Results.{handed_on}
use Rattle.rules.proofs.Dwelling.{has_pitch}
use Rattle.tool.specs.Checking.{whole_tool}
use Rattle.cutter.specs.Whole.{all_given}
use Rattle.cutter.specs.Seen.{finished}
use Rattle.cutter.specs.Lists.{lists-not, lists-kinds, lists-numbers, lists_all}
use Rattle.cutter.proofs.look_moves.Goals as goal

pub returns-in_err-by : goal.returns-in_err-by
returns-in_err-by c q h = rw (handed_on c.from_residual.result _ c.from_residual.ensures.1) record { same-kinds = refl; same-numbers = refl; lists = lists-not _ _ h c.args.t _ c.in_err-by.ensures }

pub returns-then-lists-count : goal.returns-then-lists-count
returns-then-lists-count c q h =
    let t = whole_tool c.args.t in
    let set = c.in_ok-by.ensures in
    let n = c.count_moves-count.ensures q t h (has_pitch t set.is) in
    rw (all_given q t set.is (finished h set.whole)) record { same-kinds = refl; same-numbers = refl; lists = lists-kinds _ _ _ (omega (arith, c.if-lists-count.true, n)) }

pub returns-then-lists-count-2 : goal.returns-then-lists-count-2
returns-then-lists-count-2 c q h =
    let t = whole_tool c.args.t in
    let set = c.in_ok-by.ensures in
    let n = c.count_moves-count.ensures q t h (has_pitch t set.is) in
    rw (all_given q t set.is (finished h set.whole)) record { same-kinds = refl; same-numbers = refl; lists = lists-numbers _ _ _ (omega (arith, c.if-lists-count.false, n)) (omega (arith, c.if-lists-count-2.true, n)) }

pub put_moves-requires-clause-scaled : goal.put_moves-requires-clause-scaled
put_moves-requires-clause-scaled c = c.in_ok-by.ensures.scale

pub put_moves-requires-clause-room : goal.put_moves-requires-clause-room
put_moves-requires-clause-room c q h =
    let t = whole_tool c.args.t in
    let set = c.in_ok-by.ensures in
    let n = c.count_moves-count.ensures q t h (has_pitch t set.is) in
    let e = ap (λ (t : WholeTool). length (all_moves q t)) set.tool in
    (omega (arith, e, c.if-lists-count.false, n), omega (arith, e, c.if-lists-count-2.false, n))

pub returns : goal.returns
returns c q h =
    let t = whole_tool c.args.t in
    let set = c.in_ok-by.ensures in
    let n = c.count_moves-count.ensures q t h (has_pitch t set.is) in
    let put = c.put_moves.ensures q h in
    rw (all_given q t set.is (finished h set.whole))
    record {
      same-kinds = put.same-kinds;
      same-numbers = put.same-numbers;
      lists = lists_all _ _ _ (omega (arith, c.if-lists-count.false, n)) (omega (arith, c.if-lists-count-2.false, n)) (rw set.tool at put.puts);
    }
