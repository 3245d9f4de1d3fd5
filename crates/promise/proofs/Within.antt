-- DEMAND 3, clauses 6 to 8, of a sound drawing: how many lines there are, and the frame in which all lies.
use Rattle.std.specs.Prelude.{pred, ◌+◌, ◌*◌, ◌≡◌, true}
use Rattle.std.proofs.Common.{arith, le-leb}
use Rattle.rules.specs.declared.Place.{Place}
use Rattle.rules.specs.Points.{Drawing, place_of, W, line_at}
use Rattle.rules.specs.Ports.{bend_place}
use Rattle.rules.specs.Demand.{in_frame}
use Rattle.net.specs.Bend.{bend}
use Rattle.net.specs.Frame.{Inside, point_in_lem, spot_in}
use Rattle.promise.specs.Promise.{Counted, PointsFramed, BendsFramed, Narrow}
use Rattle.promise.specs.Sound.{Sound, Bent}
use Rattle.promise.specs.Spots.{spot-bend}

-- a place inside the frame passes the test
in_frame_lem : (d : Drawing) (a : Place) → Inside (W d) a → in_frame d a ≡ true
in_frame_lem d a h = rw (le-leb a.x (W d) (omega arith), le-leb (2 * a.y + 2) (W d) h.y)

-- 6. The lines number 3k - 3 - m, in both drawings.
pub counted : {d : Drawing} → Sound d → Counted d
counted s = omega (arith, s.core.corners.count)

-- 7. All points lie in the frame.
pub points_framed : {d : Drawing} → Bent d → PointsFramed d
points_framed {d} s p pos pk = in_frame_lem d (place_of d p) (point_in_lem s.inv s.border (pred p) (omega arith))

-- 7. All bends lie in the frame.
pub bends_framed : {d : Drawing} → Bent d → BendsFramed d
bends_framed {d} s e el = in_frame_lem d (bend_place d (line_at d e)) (rw (spot-bend d e) at (spot_in s.inv s.border e el bend))

-- 8. W is at most 5k - 9.
pub narrow : {d : Drawing} → Bent d → Narrow d
narrow s = omega (arith, s.border.width)
