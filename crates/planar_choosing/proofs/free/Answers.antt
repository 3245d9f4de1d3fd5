-- `planar_choosing::free` meets its contract: none of the first lines is a chord.
use Rattle.std.proofs.Common.{◌+◌, ◌-◌, ◌≡◌, IsSome, length, get_or, refl, ap, subst, sym, ◌∙◌, arith}
use Rattle.rules.specs.Basics.{index_of}
use Rattle.rules.specs.Indices.{index_at}
use Rattle.planar_rules.specs.PlanarCode.{free?}
use Rattle.planar_reading.specs.Reads.{net_in, list_in, list_at}
use Rattle.planar_judging.specs.Laws.{passed_none, passed_more, passed_stop, passed_all}
use Rattle.planar_choosing.specs.Rows.{inside_found, index_some}
use Rattle.planar_choosing.specs.Free.{no_chord?, free_in, free_is}
use Rattle.planar_choosing.proofs.free.Goals as goal
use Rattle.planar_choosing.proofs.free.Goals.{After-list-u-items}

pub unwrap-t-requires : goal.unwrap-t-requires
unwrap-t-requires c = subst IsSome (sym (c.index_of.ensures.index ∙ inside_found c.args.boundary.now c.args.v c.requires.there)) refl

-- the test over the list is the rules'
rules' : (c : After-list-u-items) → free_in (list_in c.args.net.now c.args.v) c.args.boundary.now c.unwrap-t.result ≡ free? (net_in c.args.net.now) c.args.boundary.now (index_of c.args.v c.args.boundary.now)
rules' c =
    let net = c.args.net.now in
    let b = c.args.boundary.now in
    let e = c.list-u-items.ensures in
    let w = index_some b c.args.v (sym c.index_of.ensures.index ∙ c.unwrap-t.ensures) in
    let v = ap (λ i. get_or b i 0) (sym w.0) ∙ index_at c.args.v b (omega (arith, w)) in
    let size : length (list_in net c.args.v) ≡ get_or net.starts (c.args.v + 1) 0 - get_or net.starts c.args.v 0 = sym (ap length e.list) ∙ e.size in
    free_is (net_in net) net.kept.listed b c.index_of.ensures.distinct c.unwrap-t.result w.1 (omega (arith, v, c.requires.vertex)) (list_in net c.args.v)
    (rw v size) (λ k kl. rw v (list_at net c.args.v k (omega (arith, size)))) ∙
    ap (free? (net_in net) b) (sym w.0)

pub loop-u-init : goal.loop-u-init
loop-u-init c = passed_none

pub returns-then-not-no_chord : goal.returns-then-not-no_chord
unfolding free_in
returns-then-not-no_chord c =
    let e = c.list-u-items.ensures.list in
    let b = c.args.boundary.now in
    let chord = ap (λ l. no_chord? b c.unwrap-t.result (get_or l c.loop-u.u-index 0)) (sym e) ∙ sym c.no_chord.ensures ∙ c.if-not-no_chord.true in
    passed_stop c.loop-u.invariant (omega (arith, ap length e)) chord ∙ rules' (goal.at.returns-then-not-no_chord c).After-list-u-items

pub loop-u-preserved : goal.loop-u-preserved
loop-u-preserved c =
    let e = c.list-u-items.ensures.list in
    let b = c.args.boundary.now in
    let none = ap (λ l. no_chord? b c.unwrap-t.result (get_or l c.loop-u.u-index 0)) (sym e) ∙ sym c.no_chord.ensures ∙ c.if-not-no_chord.false in
    passed_more c.loop-u.invariant (omega (arith, ap length e)) none

pub returns : goal.returns
unfolding free_in
returns c = passed_all c.loop-u.invariant (omega (arith, ap length c.list-u-items.ensures.list)) ∙ rules' (goal.at.returns c).After-list-u-items
