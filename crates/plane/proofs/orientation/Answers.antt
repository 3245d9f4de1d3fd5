use Rattle.std.proofs.Common.{◌≡◌, pos, ◌-ℤ◌, subst, to_z, of_z, w64}
use Rattle.std.proofs.Math.Facts.{to_z-of_z}
use mir.Val.{SFits}
use Rattle.rules.specs.Meeting.{cross_plus, cross_minus}
use Rattle.plane.proofs.Signs.{minus_fits, turns}
use Rattle.plane.proofs.orientation.Goals as goal

-- it is the difference of the two sums, which come back from their bits
pub returns : goal.returns
unfolding cross_plus cross_minus
returns c =
    let fa : SFits w64 c.products.result = record { sfits = c.products.type_inv } in
    let fb : SFits w64 c.products-2.result = record { sfits = c.products-2.type_inv } in
    let a = to_z-of_z {w = w64} {z = c.products.result} fa in
    let b = to_z-of_z {w = w64} {z = c.products-2.result} fb in
    let f = minus_fits _ _ (subst (SFits w64) c.products.ensures fa) (subst (SFits w64) c.products-2.ensures fb) in
    let d : to_z w64 (of_z w64 c.products.result) -ℤ to_z w64 (of_z w64 c.products-2.result) ≡ pos (cross_plus c.args.p c.args.q c.args.r) -ℤ pos (cross_minus c.args.p c.args.q c.args.r) = rw (a, b) (rw (c.products.ensures, c.products-2.ensures)) in
    rw d (turns c.args.p c.args.q c.args.r _ (to_z-of_z f))
