-- `planar_numbering::gather_entries` meets its contract: right is a neighbour of v.
use Rattle.std.proofs.Common.{ℕ, ◌<◌, refl, [], IsSome, subst, sym, ◌∙◌, arith}
use Rattle.planar_rules.specs.PlanarCode.{Flat, run, gather}
use Rattle.planar_sphere.specs.Arc.{turn-zero}
use Rattle.planar_sphere.specs.Program.{net-map}
use Rattle.planar_reading.specs.Reads.{net_in, found_here, found_some}
use Rattle.planar_numbering.specs.Gathering.{Gatherable, Gathered}
use Rattle.planar_numbering.proofs.gather_entries.Goals as goal

-- the walk begins at a place
begins : (f : Flat) (left d0 s : ℕ) → Gatherable f left d0 s → d0 < f.D
begins f left d0 s g = omega (arith, g.in_net 0, turn-zero (net-map f) d0)

pub unwrap-d0-requires : goal.unwrap-d0-requires
unwrap-d0-requires c =
    let f = net_in c.args.net.now in
    subst IsSome (sym (c.place_of.ensures ∙ found_here f c.args.v c.args.right (begins f _ _ _ c.requires.1))) refl

pub gather_run-requires : goal.gather_run-requires
gather_run-requires c =
    let f = net_in c.args.net.now in
    let e = found_some f c.args.v c.args.right (sym c.place_of.ensures ∙ c.unwrap-d0.ensures) in
    (subst (λ d. Gatherable f c.args.left d c.args.s) e.0 c.requires.1, c.requires.2)

pub returns : goal.returns
unfolding run
returns c =
    let f = net_in c.args.net.now in
    let e = found_some f c.args.v c.args.right (sym c.place_of.ensures ∙ c.unwrap-d0.ensures) in
    subst (λ d. Gathered (gather f c.args.left f.D d []) c.args.s c.args.entries.now c.gather_run.new.entries c.gather_run.result) (sym e.0) c.gather_run.ensures
