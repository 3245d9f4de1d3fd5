-- `planar_reading::Net::read` meets its contract: 14, then too many places, or the arrays are the net's.
use Rattle.std.proofs.Common.{◌≤◌, sym, ◌∙◌, ap, subst, arith, length}
use Rattle.std.proofs.lemmas.List.{take_rest}
use Rattle.planar_rules.specs.PlanarCode.{body, neighbours}
use Rattle.planar_order.specs.File.{all_lists}
use Rattle.planar_reading.specs.Arrays.{Kept}
use Rattle.planar_reading.specs.Reads.{bad_code, no_net, long, too_many, holds_net, net_kept}
use Rattle.planar_reading.proofs.net.Net.read.Goals as goal

pub returns-then-not-formed-clause-refusal : goal.returns-then-not-formed-clause-refusal
returns-then-not-formed-clause-refusal c = rw c.at.ensures (bad_code _ (sym c.formed.ensures ∙ c.if-not-formed.true))

pub bounds-file-15 : goal.bounds-file-15
bounds-file-15 c = omega (arith, long _ (sym c.formed.ensures ∙ c.if-not-formed.false))

pub slice_bounds-lists-count : goal.slice_bounds-lists-count
slice_bounds-lists-count c = long _ (sym c.formed.ensures ∙ c.if-not-formed.false)

pub slice_bounds-lists-start : goal.slice_bounds-lists-start
slice_bounds-lists-start c = long _ (sym c.formed.ensures ∙ c.if-not-formed.false)

pub returns-then-places-gt-PLACE_ROOM-clause-refusal : goal.returns-then-places-gt-PLACE_ROOM-clause-refusal
returns-then-places-gt-PLACE_ROOM-clause-refusal c =
    let bs = c.args.file.now in
    let ok = sym c.formed.ensures ∙ c.if-not-formed.false in
    rw c.at-then-places-gt-PLACE_ROOM.ensures (no_net bs ok (too_many bs ok (omega (arith, c.count_places-places.ensures, c.if-places-gt-PLACE_ROOM.true, ap (λ l. length (neighbours l)) (take_rest bs 16)))))

pub starts_of-requires : goal.starts_of-requires
starts_of-requires c =
    let bs = c.args.file.now in
    (rw (take_rest bs 16) (all_lists bs (sym c.formed.ensures ∙ c.if-not-formed.false)), omega (arith, c.count_places-places.ensures, c.if-places-gt-PLACE_ROOM.false))

pub owners_of-requires : goal.owners_of-requires
owners_of-requires c =
    let bs = c.args.file.now in
    (rw (take_rest bs 16) (all_lists bs (sym c.formed.ensures ∙ c.if-not-formed.false)), omega (arith, c.count_places-places.ensures, c.if-places-gt-PLACE_ROOM.false))

pub invariant_of-result : goal.invariant_of-result
invariant_of-result c =
    let bs = c.args.file.now in
    let ok = sym c.formed.ensures ∙ c.if-not-formed.false in
    let few : length (neighbours (body bs)) ≤ 1536 = omega (arith, c.count_places-places.ensures, c.if-places-gt-PLACE_ROOM.false, ap (λ l. length (neighbours l)) (take_rest bs 16)) in
    record {
      kept = subst Kept (sym (holds_net bs ok _ _ _ (take_rest bs 16) c.count_places-places.ensures c.starts_of.ensures c.owners_of.ensures c.neighbours_of.ensures)) (net_kept bs ok few);
    }

pub returns-clause-net : goal.returns-clause-net
returns-clause-net c =
    let bs = c.args.file.now in
    let ok = sym c.formed.ensures ∙ c.if-not-formed.false in
    record {
      formed = ok;
      is = holds_net bs ok _ _ _ (take_rest bs 16) c.count_places-places.ensures c.starts_of.ensures c.owners_of.ensures c.neighbours_of.ensures;
    }
