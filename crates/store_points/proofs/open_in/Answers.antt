-- The points and lines are those of `open_arrays`, over a blank drawing.
use Rattle.std.proofs.Common.{◌≡◌, ◌-◌, refl}
use Rattle.rules.specs.declared.Style.{Style}
use Rattle.rules.specs.declared.Style.TheVariants.{OneBend, Straight}
use Rattle.rules.specs.Styles.{second_x, third_x}
use Rattle.store_links.specs.Opening.{open_arrays}
use Rattle.store_points.proofs.open_in.Goals as goal

-- Point 3 stands as far from point 1 as from point 2.
halfway : (τ : Style) → second_x τ - third_x τ ≡ third_x τ
halfway OneBend = refl
halfway Straight = refl

pub returns : goal.returns
unfolding open_arrays
returns c =
    let between : c.second_x.result - c.third_x-x.result ≡ third_x c.args.style = rw (c.second_x.ensures, c.third_x-x.ensures) (halfway c.args.style) in
    (rw (c.three.ensures, c.three-2.ensures, c.requires, between, c.third_x-x.ensures, c.third_y.ensures, c.taken-ports.ensures, c.line_of-ground.ensures, c.line_of.ensures, c.line_of-2.ensures, c.bent-right.ensures, c.bent-left.ensures) refl, refl)
