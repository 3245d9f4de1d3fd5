-- `write_order`: head, points and end, one behind the other, are the order file.
use Rattle.std.proofs.Common.{◌∷◌, [], length, ap, arith, rules}
use Rattle.rules.specs.Records.{end_mark}
use Rattle.pages.specs.Pages.{words_both, pasted}
use Rattle.write_orders.specs.Writing.{head_words, points_words}
use Rattle.write_orders.proofs.Finished.{parts, order-written}
use Rattle.write_orders.proofs.write_order.Goals as goal

pub put_head-requires : goal.put_head-requires
put_head-requires c = let h = parts c.requires in (h.n, h.s, omega (arith, h.room, c.new-page.ensures.at, ap length c.new-page.ensures.bytes))

pub put_points-requires : goal.put_points-requires
put_points-requires c =
    let h = parts c.requires in
    let head = c.put_head.ensures in
    (h.n, h.lines, h.low, omega (arith, h.room, c.new-page.ensures.at, ap length c.new-page.ensures.bytes, (pasted (head_words c.args.d.now.counts.n c.args.d.now.counts.s) head).behind, head.size))

pub put_end-requires : goal.put_end-requires
put_end-requires c =
    let h = parts c.requires in
    let d = c.args.d.now in
    let n = d.counts in
    let head = c.put_head.ensures in
    let points = c.put_points.ensures in
    omega (
      arith,
      h.room,
      c.new-page.ensures.at,
      ap length c.new-page.ensures.bytes,
      (pasted (head_words n.n n.s) head).behind,
      head.size,
      (pasted (points_words d.table.lines n.lines n.n 1 0) points).behind,
      points.size,
    )

pub returns : goal.returns
returns c =
    let d = c.args.d.now in
    let n = d.counts in
    let points = points_words d.table.lines n.lines n.n 1 0 in
    order-written c.new-page.ensures.at c.new-page.ensures.bytes
    (words_both (head_words n.n n.s) _ c.put_head.ensures (words_both points (end_mark ∷ []) c.put_points.ensures c.put_end.ensures)) (search rules)
