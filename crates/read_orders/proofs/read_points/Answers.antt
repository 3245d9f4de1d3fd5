-- `read_orders::read_points` meets its contract: points 1 to 3, the drawing as opened, then the rest.
use Rattle.read_orders.proofs.Opens.{start-ready, start_gave}
use Rattle.read_orders.proofs.read_points.Goals as goal

pub read_rest-requires : goal.read_rest-requires
read_rest-requires c = start-ready c.args.here.now.file.now c.args.here.now.at c.requires c.args.style c.args.s c.in_ok-start.ensures _ c.open_in.ensures

pub returns : goal.returns
returns c =
    let m = c.moved_to.ensures in
    start_gave c.args.here.now.file.now c.args.here.now.at c.requires c.args.style c.args.s c.in_ok-start.ensures _ c.open_in.ensures _ c.read_rest.result
    (rw (m.same_file, m.place) at c.read_rest.ensures)
