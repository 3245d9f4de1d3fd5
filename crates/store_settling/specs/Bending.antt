-- The bends that the arrays give are those of the drawing, and those of a sound drawing can be found.
use Rattle.std.specs.Prelude.{ℕ, pred, ◌+◌, ◌<◌, ◌≤◌, ◌≡◌, refl, List, length, take}
use Rattle.std.proofs.Common.{ap, arith}
use Rattle.rules.specs.declared.Style.{Style}
use Rattle.rules.specs.declared.Style.TheVariants.{OneBend, Straight}
use Rattle.rules.specs.declared.Bend.{Bend}
use Rattle.rules.specs.declared.Bend.TheVariants.{Left, Right, Middle, NoBend}
use Rattle.rules.specs.Points.{Drawing, x_of, y_of, dl_of, dr_of, h_of, line_at}
use Rattle.rules.specs.Ports.{bend_of}
use Rattle.net.specs.Side.{rt, lf}
use Rattle.net.specs.Net.{flat}
use Rattle.net.specs.Frame.{point_in_lem}
use Rattle.net.specs.Ports.{aside_of}
use Rattle.promise.specs.Nets.{bend_kind}
use Rattle.promise.specs.Sound.{Sound, Bent, bent, unbent}
use Rattle.store_links.specs.declared.Counts.{Counts}
use Rattle.rules.proofs.Lengths.{first_at}
use Rattle.store_links.specs.Arrays.{Arrays, Stores, at_point}
use Rattle.store_settling.specs.Bends.{bend_in, PortFits, Bendable}

-- the first numbers of the x and of the arrays are the drawing's
pub record Shows (d : Drawing) (xs : List ℕ) (a : Arrays) : Type 0 where
  pub x : take d.k xs ≡ d.xs
  pub y : take d.k a.ys ≡ d.ys
  pub dl : take d.k a.dls ≡ d.dls
  pub dr : take d.k a.drs ≡ d.drs
  pub h : take d.k a.hs ≡ d.hs

-- The settled x and the arrays that store a drawing show it.
pub shows_of : {d : Drawing} {a : Arrays} {c : Counts} {xs : List ℕ} → take d.k xs ≡ d.xs → Stores d a c → Shows d xs a
shows_of e s = record { x = e; y = s.ys; dl = s.dls; dr = s.drs; h = s.hs }

module _ {d : Drawing} {xs : List ℕ} {a : Arrays} (s : Shows d xs a) where
  -- The numbers of a placed point are the drawing's.
  pub record Seen (p : ℕ) : Type 0 where
    pub x : at_point xs p ≡ x_of d p
    pub y : at_point a.ys p ≡ y_of d p
    pub dl : at_point a.dls p ≡ dl_of d p
    pub dr : at_point a.drs p ≡ dr_of d p
    pub h : at_point a.hs p ≡ h_of d p

  seen : (p : ℕ) → 0 < p → p ≤ d.k → Seen p
  seen p l u =
      let below : pred p < d.k = omega arith in
      record {
        x = first_at xs d.xs d.k (pred p) s.x below;
        y = first_at a.ys d.ys d.k (pred p) s.y below;
        dl = first_at a.dls d.dls d.k (pred p) s.dl below;
        dr = first_at a.drs d.drs d.k (pred p) s.dr below;
        h = first_at a.hs d.hs d.k (pred p) s.h below;
      }

  bend_by_lem : (later earlier : ℕ) → Seen later → Seen earlier → (b : Bend) → bend_in xs a later earlier b ≡ bend_of d later earlier b
  bend_by_lem later earlier v u (Left j) = rw (u.x, u.y, u.dl)
  bend_by_lem later earlier v u (Right j) = rw (u.x, u.y, u.dr)
  bend_by_lem later earlier v u (Middle i) = rw (v.x, v.y, v.h)
  bend_by_lem later earlier v u NoBend = rw (u.x, u.y)

  -- So the bend read from the lists is the drawing's.
  pub bend_right : (later earlier : ℕ) → 0 < later → later ≤ d.k → 0 < earlier → earlier ≤ d.k → (b : Bend) →
      bend_in xs a later earlier b ≡ bend_of d later earlier b
  bend_right later earlier l u c e = bend_by_lem later earlier (seen later l u) (seen earlier c e)

  -- A line without a port needs no room for one.
  flat_fits : (later earlier : ℕ) (b : Bend) → bend_kind b ≡ flat → PortFits xs a later earlier b
  flat_fits later earlier (Left j) q = absurd (let z : ◌≡◌ {A = ℕ} 0 1 = cc in omega arith)
  flat_fits later earlier (Right j) q = absurd (let z : ◌≡◌ {A = ℕ} 0 1 = cc in omega arith)
  flat_fits later earlier (Middle i) q = absurd (let z : ◌≡◌ {A = ℕ} 0 1 = cc in omega arith)
  flat_fits later earlier NoBend q = tt

  module _ (sound : Bent d) (small : d.k ≤ 1024) (e : ℕ) (el : e < length d.lines) where
    -- In a one-bend drawing the later point lies in the frame, which is small.
    in_frame_lem : x_of d (line_at d e).later + y_of d (line_at d e).later < 5120
    in_frame_lem = omega (arith, (point_in_lem sound.inv sound.border (pred (line_at d e).later) (sound.inv.core.lines.ends e el).1).b, sound.border.width)

    -- So do the ports of a line.
    fits_by : (b : Bend) → (line_at d e).bend ≡ b → Seen (line_at d e).later → Seen (line_at d e).earlier →
        PortFits xs a (line_at d e).later (line_at d e).earlier b
    fits_by (Left j) q v u =
        let t = sound.inv.slopes.slope lf j e el (ap bend_kind q) in
        let f = aside_of _ (ap bend_kind q) (sound.inv.core.lines.fits e el) in
        omega (arith, in_frame_lem, f.2)
    fits_by (Right j) q v u =
        let t = sound.inv.slopes.slope rt j e el (ap bend_kind q) in
        let f = aside_of _ (ap bend_kind q) (sound.inv.core.lines.fits e el) in
        omega (arith, in_frame_lem, f.2)
    fits_by (Middle i) q v u =
        let t = sound.inv.slopes.reach i e el (ap bend_kind q) in
        omega (arith, in_frame_lem, sound.inv.core.points.frame (pred (line_at d e).later) (sound.inv.core.lines.ends e el).1)
    fits_by NoBend q v u = tt

  module _ (sound : Sound d) (small : d.k ≤ 1024) (e : ℕ) (el : e < length d.lines) where
    -- A straight line has no port.
    fits_of : (τ : Style) → d.style ≡ τ → Seen (line_at d e).later → Seen (line_at d e).earlier → PortFits xs a (line_at d e).later (line_at d e).earlier (line_at d e).bend
    fits_of OneBend b v u = fits_by (bent sound b) small e el (line_at d e).bend refl v u
    fits_of Straight b v u = flat_fits (line_at d e).later (line_at d e).earlier (line_at d e).bend ((unbent sound b).core.lines.fits e el).0

    -- The bend of a line of a sound drawing can be found.
    pub bendable_of : length xs ≡ 1024 → Bendable xs a (line_at d e).later (line_at d e).earlier (line_at d e).bend
    bendable_of long =
        let some = sound.ended.ends e el in
        let ends : (pred (line_at d e).earlier < d.k) × (pred (line_at d e).later < d.k) = sound.core.lines.ends e el in
        let v : (line_at d e).later ≤ d.k = omega (arith, ends.1, some.1) in
        let u : (line_at d e).earlier ≤ d.k = omega (arith, ends.0, some.0) in
        record {
          long = long;
          later_in_lem = (some.1, omega arith);
          earlier_in_lem = (some.0, omega arith);
          fits = fits_of d.style refl (seen (line_at d e).later some.1 v) (seen (line_at d e).earlier some.0 u);
        }
