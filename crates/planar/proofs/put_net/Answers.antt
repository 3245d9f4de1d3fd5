-- `planar::put_net` meets its contract: the numbered points are written as both outputs.
use Rattle.std.proofs.Common.{arith, sym, ◌∙◌, subst}
use Rattle.planar_choosing.specs.Rows.{Apart}
use Rattle.planar.specs.Net.{its_valid, its_first}
use Rattle.planar.specs.Numbered.{ver_apart, puttable, order-stored, list-stored}
use Rattle.planar.proofs.put_net.Goals as goal

pub number-points-requires : goal.number-points-requires
number-points-requires c = let t = c.requires.0.1 in (its_valid t, its_first t)

pub new-by_point-requires : goal.new-by_point-requires
new-by_point-requires c =
    let t = c.requires.0.1 in
    (omega (arith, c.from.ensures, c.args.net.now.kept.byte), subst (Apart c.number-points.result.vertices) (sym (c.from.ensures ∙ c.n.ensures)) (ver_apart t c.number-points.ensures))

pub put_both-requires : goal.put_both-requires
put_both-requires c =
    let e = rw (c.from.ensures ∙ c.n.ensures) at c.new-by_point.ensures in
    puttable c.requires.0.1 c.number-points.ensures e c.requires.1 c.requires.2

pub returns : goal.returns
returns c =
    let e = rw (c.from.ensures ∙ c.n.ensures) at c.new-by_point.ensures in (
      order-stored c.requires.0.1 c.number-points.ensures e c.put_both.ensures.0,
      list-stored c.requires.0.1 c.number-points.ensures e c.put_both.ensures.1,
    )
