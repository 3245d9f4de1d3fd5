-- DEMAND 3, clauses 1 and 2, of a sound drawing: x grows along the boundary, and each boundary step has its line, whose free piece is slanted.
use Rattle.std.specs.Prelude.{ℕ, suc, pred, ◌+◌, ◌<◌, ◌≡◌, ◌≢◌, ◌⊎◌, true}
use Rattle.std.proofs.Common.{sym, ap, ◌∙◌, inl, inr, arith, eq-eqb}
use Rattle.std.proofs.Math.Bool.{or-true}
use Rattle.rules.specs.declared.Style.{Style}
use Rattle.rules.specs.declared.Style.TheVariants.{OneBend, Straight}
use Rattle.rules.specs.declared.Line.{Line}
use Rattle.rules.specs.declared.Place.{Place}
use Rattle.rules.specs.Points.{Drawing, w, m, line_at}
use Rattle.rules.specs.Ports.{free_piece}
use Rattle.rules.specs.Demand.{ends_at, joins, slanted}
use Rattle.rules.specs.Bools.{both}
use Rattle.net.specs.Side.{Side, rt, lf, op, at, Gap}
use Rattle.net.specs.Bend.{start, bend, end, spot}
use Rattle.net.specs.Inv.{Core, Link}
use Rattle.net.specs.Alike.{other_way}
use Rattle.net.specs.Walls.{chain}
use Rattle.net.specs.Frame.{Level, up, down, slope_one_lem}
use Rattle.promise.specs.Nets.{net_of}
use Rattle.promise.specs.Promise.{IsLine, Rising, Bordered, Slanted}
use Rattle.promise.specs.Sound.{Sound, Bent}
use Rattle.promise.specs.Spots.{earlier_of, later_of, ends_cases, ends-later, ends-earlier, by_owner, piece, free_piece_lem}

-- further to the right, and back to the left, is a larger x
further_x : (τ : Style) (xp yp xq yq : ℕ) → Gap τ rt xp yp xq yq → Gap τ lf xq yq xp yp → xp < xq
further_x OneBend xp yp xq yq b c = omega arith
further_x Straight xp yp xq yq b c = omega arith

-- 1. x grows strictly along the boundary, in both drawings.
pub rising : {d : Drawing} → Sound d → Rising d
rising {d} s i im =
    let c = chain s.core.points i (suc i) (omega arith) im in
    further_x d.style _ _ _ _ c.0.gap c.1.gap

-- a line between the ends of a step joins them, whichever way it goes
joins-step : (d : Drawing) (i e : ℕ) (t : Side) → (line_at d e).earlier ≡ w d (at t i (suc i)) → (line_at d e).later ≡ w d (at (op t) i (suc i)) →
    joins (w d i) (w d (suc i)) (line_at d e) ≡ true
joins-step d i e rt p q = rw (ends-earlier (w d i) (line_at d e) p) (ends-later (w d (suc i)) (line_at d e) q)
joins-step d i e lf p q = rw (ends-later (w d i) (line_at d e) q) (ends-earlier (w d (suc i)) (line_at d e) p)

-- a line that joins two points has both as its ends
joined : (p q : ℕ) (l : Line) → p ≢ q → joins p q l ≡ true → ((l.later ≡ p) × (l.earlier ≡ q)) ⊎ ((l.later ≡ q) × (l.earlier ≡ p))
joined p q l n t =
    let b = both (ends_at p l) (ends_at q l) t in
    go (ends_cases p l b.0) (ends_cases q l b.1)
  where
    go : (l.later ≡ p) ⊎ (l.earlier ≡ p) → (l.later ≡ q) ⊎ (l.earlier ≡ q) → ((l.later ≡ p) × (l.earlier ≡ q)) ⊎ ((l.later ≡ q) × (l.earlier ≡ p))
    go (inl a) (inl b) = absurd (n (omega arith))
    go (inl a) (inr b) = inl (a, b)
    go (inr a) (inl b) = inr (b, a)
    go (inr a) (inr b) = absurd (n (omega arith))

-- pieces on one diagonal are slanted
level-slanted : (a b : Place) → Level a b → slanted (piece a b) ≡ true
level-slanted a b (up h) = rw (eq-eqb (a.x + b.y) (b.x + a.y) h)
level-slanted a b (down h) = simp (eq-eqb (a.x + a.y) (b.x + b.y) h, or-true)

-- by the drawing's own invariant, or by the same for its style by name
module _ {d : Drawing} (s : Sound d) {τ : Style} (c : Core τ (net_of d)) (i : ℕ) (im : suc i < m d) where
  -- the boundary line of the step
  abbrev link : Link τ (net_of d) i
  link = c.corners.links i im

  -- the ends of the step are points
  low : (t : Side) → 0 < w d (at t i (suc i))
  low rt = (s.rooted.low i (omega arith)).0
  low lf = (s.rooted.low (suc i) im).0

  -- the earlier end of the boundary line
  earlier_is : (line_at d link.e).earlier ≡ w d (at link.s i (suc i))
  earlier_is = earlier_of s (w d (at link.s i (suc i))) link.e (low link.s) link.el link.u

  -- the later end of the boundary line
  later_is : (line_at d link.e).later ≡ w d (at (op link.s) i (suc i))
  later_is = later_of s (w d (at (op link.s) i (suc i))) link.e (low (op link.s)) link.el link.v

  -- the step has its line
  has_line : (e : ℕ) × IsLine d e × (joins (w d i) (w d (suc i)) (line_at d e) ≡ true)
  has_line = (link.e, link.el, joins-step d i link.e link.s earlier_is later_is)

  -- the ends of the step are different
  apart : w d i ≢ w d (suc i)
  apart q = let o = c.points.on in omega (arith, (o i (omega arith)).1, (o (suc i) im).1, ap (λ p. (net_of d).col (pred p)) q)

  -- the line that joins the ends of the step is the boundary line
  only : (e : ℕ) → IsLine d e → joins (w d i) (w d (suc i)) (line_at d e) ≡ true → e ≡ link.e
  only e el t = go link.s earlier_is later_is (joined (w d i) (w d (suc i)) (line_at d e) apart t)
    where
      go : (t : Side) → (line_at d link.e).earlier ≡ w d (at t i (suc i)) → (line_at d link.e).later ≡ w d (at (op t) i (suc i)) →
          (((line_at d e).later ≡ w d i) × ((line_at d e).earlier ≡ w d (suc i))) ⊎ (((line_at d e).later ≡ w d (suc i)) × ((line_at d e).earlier ≡ w d i)) → e ≡ link.e
      go rt p q (inl b) = absurd (other_way c.alike e link.e el link.el (ap pred (b.1 ∙ sym q)) (ap pred (b.0 ∙ sym p)))
      go rt p q (inr b) = c.alike.one e link.e el link.el (ap pred (b.1 ∙ sym p)) (ap pred (b.0 ∙ sym q))
      go lf p q (inl b) = c.alike.one e link.e el link.el (ap pred (b.1 ∙ sym p)) (ap pred (b.0 ∙ sym q))
      go lf p q (inr b) = absurd (other_way c.alike e link.e el link.el (ap pred (b.1 ∙ sym q)) (ap pred (b.0 ∙ sym p)))

-- 2. Each boundary step has its line, in both drawings.
pub bordered : {d : Drawing} → Sound d → Bordered d
bordered s = has_line s s.core

-- ---- where lines bend

module _ {d : Drawing} (s : Bent d) (i : ℕ) (im : suc i < m d) where
  -- the boundary line's free piece
  link-slanted : slanted (free_piece d (line_at d (s.inv.core.corners.links i im).e)) ≡ true
  link-slanted =
      let g = net_of d in
      let t = s.inv.core.corners.links i im in
      let k = ap (λ κ. piece (spot g t.e bend) (spot g t.e (by_owner κ end start))) t.kind in
      ap slanted (free_piece_lem d t.e ∙ k) ∙ level-slanted _ _ (slope_one_lem s.inv s.border i im)

-- 2. The free piece of a boundary line has slope 1 or -1, or no length.
pub slopes : {d : Drawing} → Bent d → Slanted d
slopes {d} s i e im el t = rw (only s.sound s.inv.core i im e el t) (link-slanted s i im)
