-- `planar_choosing::open` meets its contract: inside, without a chord.
use Rattle.std.proofs.Common.{ap, sym, ◌∙◌, ◌&&◌}
use Rattle.planar_rules.specs.PlanarCode.{free?}
use Rattle.rules.specs.Basics.{index_of}
use Rattle.planar_reading.specs.Reads.{net_in}
use Rattle.planar_choosing.specs.Choosing.{open_is}
use Rattle.planar_choosing.proofs.open.Goals as goal

pub returns-then-is_inside : goal.returns-then-is_inside
returns-then-is_inside c =
    let f = net_in c.args.net.now in
    let b = c.args.boundary.now in
    c.free.ensures ∙ ap (λ a. a && free? f b (index_of c.args.v b)) (sym c.if-is_inside.true ∙ c.is_inside.ensures) ∙ open_is f b c.args.v

pub returns-else-is_inside : goal.returns-else-is_inside
returns-else-is_inside c =
    let f = net_in c.args.net.now in
    let b = c.args.boundary.now in
    c.if-is_inside.false ∙ ap (λ a. a && free? f b (index_of c.args.v b)) (sym c.if-is_inside.false ∙ c.is_inside.ensures) ∙ open_is f b c.args.v
