-- `planar_judging::joined` meets its contract: the labels are those that the rules give after i lines.
use Rattle.std.proofs.Common.{◌≡◌, ◌∙◌, arith, get_or-take, length-take-le}
use Rattle.planar_reading.specs.Reads.{net_in}
use Rattle.planar_judging.specs.Laws.{Labelled, labelled_none, labelled_more, joined_is}
use Rattle.planar_judging.proofs.joined.Goals as goal

pub loop-i-init : goal.loop-i-init
loop-i-init c =
    let net = c.args.net.now in
    let n = c.from.ensures ∙ c.n.ensures in
    let byte = net.kept.byte in (
      length-take-le c.from.result c.own_labels-room.result (omega arith) ∙ n,
      labelled_none (net_in net) _ (λ x xl. get_or-take c.from.result c.own_labels-room.result x 0 (omega (arith, n)) ∙ c.own_labels-room.ensures x (omega (arith, byte))),
    )

pub loop-i-preserved : goal.loop-i-preserved
loop-i-preserved c =
    let l = c.loop-i in
    let net = c.args.net.now in
    let k = net.kept in
    let m = rw (l.invariant.0, c.owner.ensures, c.neighbour.ensures) at c.join.ensures in
    (m.same ∙ l.invariant.0, labelled_more (net_in net) l.i (k.listed.own_in l.i (omega arith)) (k.nbrs l.i (omega arith)) l.invariant.1 m)

pub returns : goal.returns
returns c =
    let net = c.args.net.now in
    let e : c.loop-i.i ≡ net.places = omega arith in
    let all : Labelled (net_in net) net.places c.loop-i.labels = rw e at c.loop-i.invariant.1 in
    rw c.loop-i.invariant.0 at c.one_label.ensures ∙ joined_is (net_in net) c.loop-i.labels (omega (arith, net.kept.some)) all
