-- `planar_reading::Net::place_of` meets its contract: no place from d on, up to the end of v's list, names u.
use Rattle.std.proofs.Common.{◌-◌, arith}
use Rattle.planar_reading.specs.Reads.{net_in, place_found, place-none}
use Rattle.planar_reading.proofs.net.Net.place_of.Goals as goal

pub returns-then-self-d : goal.returns-then-self-d
returns-then-self-d c =
    let l = c.loop-d in
    let net = c.args.self.now in
    place_found
    (net_in net) net.kept.listed c.args.v c.args.u c.requires (l.d - 1)
    (omega (arith, c.start-d-start.ensures, c.loop-d-test.true)) (omega (arith, l.auto.d, c.end-d.ensures, c.loop-d-test.true)) c.if-self-d.true
    (λ y dy yl. l.invariant y (omega arith) yl)

pub returns : goal.returns
returns c =
    let net = c.args.self.now in
    place-none (net_in net) net.kept.listed c.args.v c.args.u c.requires
    (λ d a b. c.loop-d.invariant d (omega (arith, c.start-d-start.ensures, c.loop-d-test.false)) b)
