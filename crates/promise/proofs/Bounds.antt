-- What the arithmetic of the running calls needs, for both drawings: ranges of the counts and of places.
-- That no subtraction of the rules truncates is in Exact, and for steps 3 and 4 also in Places; columns are in Moved and Columns.
use Rattle.std.specs.Prelude.{ℕ, suc, pred, ◌*◌, ◌<◌, ◌≤◌, ◌≡◌, refl, List, length}
use Rattle.std.proofs.Common.{sym, arith}
use Rattle.rules.specs.declared.Style.{Style}
use Rattle.rules.specs.declared.Style.TheVariants.{OneBend, Straight}
use Rattle.rules.specs.declared.Kind.{Kind}
use Rattle.rules.specs.declared.Entry.{Entry}
use Rattle.rules.specs.Refusals.{good}
use Rattle.rules.specs.Points.{Drawing, x_of, y_of, W, line_at, start}
use Rattle.rules.specs.Ports.{bend_place}
use Rattle.rules.specs.Adding.{add_entries}
use Rattle.net.specs.Bend.{bend}
use Rattle.net.specs.Side.{inset_most}
use Rattle.net.specs.Frame.{Inside, spot_in}
use Rattle.net.specs.Size.{inside}
use Rattle.promise.specs.Promise.{IsLine}
use Rattle.promise.specs.Nets.{net_of}
use Rattle.promise.specs.Standing.{Ranged, Standing}
use Rattle.promise.specs.Sound.{bent, unbent}
use Rattle.promise.specs.Frames.{wide, framed}
use Rattle.promise.specs.Next.{next}
use Rattle.promise.specs.Border.{m'}
use Rattle.promise.specs.Opening.{sound-start}
use Rattle.promise.specs.Accepted.{accepted}
use Rattle.promise.specs.Spots.{spot-bend}
use Rattle.promise.specs.Step.{sound-added}

ranged-start : (τ : Style) (n s : ℕ) (c1 c2 c3 : Kind) → 3 ≤ n → n ≤ 1024 → Ranged (start τ n s c1 c2 c3)
ranged-start τ n s c1 c2 c3 low high = record { low = low; high = high; room = low; three = omega arith; border = omega arith; closed = λ e. refl }

pub standing-start : (τ : Style) (n s : ℕ) (c1 c2 c3 : Kind) → 3 ≤ n → n ≤ 1024 → Standing (start τ n s c1 c2 c3)
standing-start τ n s c1 c2 c3 low high = record { sound = sound-start τ n s c1 c2 c3; ranged = ranged-start τ n s c1 c2 c3 low high }

n_next : (d : Drawing) (es : List Entry) (l r : ℕ) → ((next d es l r).n ≡ d.n) × ((next d es l r).k ≡ suc d.k)
unfolding next
n_next d es l r = (omega arith, omega arith)

-- a call that is accepted keeps all this
pub standing-added : (d e : Drawing) (es : List Entry) → Standing d → add_entries d es ≡ good e → Standing e
standing-added d e es t h =
    let a = accepted d e es h in
    let z = n_next d es a.l a.r in
    let b = m' d es a.l a.r t.sound a.run in
    let g = t.ranged in
    record {
      sound = sound-added d e es t.sound h;
      ranged =
          rw a.is
          (record {
            low = omega (arith, z.0);
            high = omega (arith, z.0);
            room = omega (arith, z.0, z.1, a.room);
            three = omega (arith, z.1);
            border = omega (arith, z.1, b, a.run.lr);
            closed = λ e. let w = a.whole (omega (arith, z.0, z.1)) in omega (arith, b, a.run.lr, a.run.rm, a.run.size);
          });
    }

module _ (d : Drawing) (t : Standing d) where
  -- W is below 5,112, so that eight times any place is below 65,536
  pub width_most : W d ≤ 5111
  width_most = omega (arith, wide t.sound, inset_most d.style, t.ranged.room, t.ranged.high)

  -- the lines fit 3,072
  pub lines_most : length d.lines ≤ 3067
  lines_most = omega (arith, t.sound.core.corners.count, t.sound.core.corners.size, t.ranged.room, t.ranged.high)

  -- places and bends
  pub place_most : (p : ℕ) → 0 < p → p ≤ d.k → (x_of d p ≤ W d) × (2 * y_of d p ≤ W d)
  place_most p low high = let i = framed t.sound (pred p) (omega arith) in (omega (arith, i.1), omega (arith, i.2))

  pub bend_most : (e : ℕ) → IsLine d e → ((bend_place d (line_at d e)).x ≤ W d) × (2 * (bend_place d (line_at d e)).y ≤ W d)
  bend_most e el = go d.style refl
    where
      go : (τ : Style) → d.style ≡ τ → ((bend_place d (line_at d e)).x ≤ W d) × (2 * (bend_place d (line_at d e)).y ≤ W d)
      go OneBend b =
          let s = bent t.sound b in
          let i : Inside (W d) (bend_place d (line_at d e)) = rw (spot-bend d e) at (spot_in s.inv s.border e el bend) in
          (omega (arith, i.b), omega (arith, i.y))
      go Straight b =
          let s = unbent t.sound b in
          let i = inside s.core s.width ((net_of d).u e) (s.core.lines.ends e el).0 in
          rw (sym (spot-bend d e), (s.core.lines.fits e el).0) (omega arith, omega arith)
