-- `place_of` meets its contract: a placed point is seen, at its place.
use Rattle.std.proofs.Common.{◌≡◌, sym, ◌∙◌}
use Rattle.std.specs.Prelude.{Ok}
use Rattle.rules.specs.declared.Place.{Place}
use Rattle.rules.specs.Refusals.{Answer}
use Rattle.rules.specs.Points.{place_of}
use Rattle.cutter_grooves.specs.Grid.{place_seen}
use Rattle.cutter_grooves.proofs.place_of.Goals as goal

pub unwrap-requires : goal.unwrap-requires
unwrap-requires c =
    let h = c.requires.placed.came.is in
    let there = c.requires.there in
    rw (c.look_point.ensures _ h, c.from.ensures, place_seen h c.args.p there.0 there.1)

pub returns : goal.returns
returns c q h =
    let there = c.requires.there in
    let seen : ◌≡◌ {A = Answer Place} (Ok c.unwrap.result) (Ok (place_of q c.args.p)) =
    sym c.unwrap.ensures ∙ c.look_point.ensures q h ∙ rw c.from.ensures (place_seen h c.args.p there.0 there.1) in
    cc
