-- `planar_writing::put_order` meets its contract: header, points and end stand one behind the other.
use Rattle.std.proofs.Common.{◌∷◌, [], length, ap, arith, rules, length-append, drop}
use Rattle.rules.specs.Records.{order_mark, end_mark}
use Rattle.pages.specs.Pages.{words_both, pasted, page_stored}
use Rattle.planar_writing.specs.Words.{points_words}
use Rattle.planar_writing.proofs.put_order.Goals as goal

pub put_end-requires : goal.put_end-requires
put_end-requires c =
    let b = c.args.by_point.now in
    let p = c.args.points.now in
    let points = points_words b p.counts 0 (length b) (drop p.from p.entries) in
    let put = c.put_points.ensures in
    omega (arith, c.requires.room, length-append points (end_mark ∷ []), c.new-page.ensures.at, ap length c.new-page.ensures.bytes, c.put_two.ensures.at, c.put_two.ensures.size, (pasted points put).behind, put.size)

pub returns : goal.returns
returns c =
    let b = c.args.by_point.now in
    let p = c.args.points.now in
    let points = points_words b p.counts 0 (length b) (drop p.from p.entries) in
    let head = rw c.len.ensures.count at c.put_two.ensures in
    page_stored c.new-page.ensures.at c.new-page.ensures.bytes (words_both (order_mark ∷ length b ∷ []) _ head (words_both points (end_mark ∷ []) c.put_points.ensures c.put_end.ensures)) (search rules)
