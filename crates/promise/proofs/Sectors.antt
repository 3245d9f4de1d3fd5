-- DEMAND 3, clause 3: a line whose port is not at its end leaves it into a free sector, and each sector of a point takes one line at most.
use Rattle.std.specs.Prelude.{ℕ, pred, ◌+◌, ◌<◌, ◌≤◌, ◌≡◌, refl, ◌≢◌, true, false, not}
use Rattle.std.proofs.Common.{sym, ◌∙◌, subst, true≢false, arith, lt-ltb, le-ltb, le-leb, eq-eqb}
use Rattle.std.proofs.Math.Bool.{and-false}
use Rattle.std.proofs.lemmas.Bool.{lt-leb, not-true}
use Rattle.rules.specs.declared.Kind.{Kind}
use Rattle.rules.specs.declared.Bend.{Bend}
use Rattle.rules.specs.declared.Bend.TheVariants.{Left, Right, Middle, NoBend}
use Rattle.rules.specs.declared.Line.{Line}
use Rattle.rules.specs.declared.Place.{Place}
use Rattle.rules.specs.Points.{Drawing, place_of, line_at}
use Rattle.rules.specs.Demand.{ends_at, port_at, towards, counts_at, Sector, leftSector, rightSector, middleSector, noSector, sector, sector_of}
use Rattle.rules.specs.Bools.{both}
use Rattle.net.specs.Side.{Side, rt, lf}
use Rattle.net.specs.Net.{Net, side, middle}
use Rattle.net.specs.Inv.{Inv}
use Rattle.net.specs.Shared.{Came, came_once}
use Rattle.net.specs.Angles as A
use Rattle.net.specs.Angles.{Dir}
use Rattle.net.specs.Aims.{Heads, Aim, out, free, mid, top}
use Rattle.promise.specs.Nets.{net_of, bend_kind}
use Rattle.promise.specs.Sound.{Bent}
use Rattle.promise.specs.Promise.{IsLine, Sectored, Single}
use Rattle.promise.specs.Leaving.{Leaving, leaving, leaving-heads, end-placed}

-- ---- the sector of a direction

abbrev side_sector : Side → Sector
side_sector rt = rightSector
side_sector lf = leftSector

-- A free direction of a side lies in the sector of the side.
free-sector : (s : Side) (x y : ℕ) (p q : Place) → 0 < x → y ≤ x → Heads (A.free s x y) p q → sector p q ≡ side_sector s
free-sector rt x y p q h b k =
    rw (le-ltb q.x p.x (omega arith), lt-ltb p.x q.x (omega arith), le-leb q.y p.y (omega arith), le-leb (p.x + p.y) (q.x + q.y) (omega arith))
free-sector lf x y p q h b k =
    rw (lt-ltb q.x p.x (omega arith), le-leb q.y p.y (omega arith), le-leb (p.y + q.x) (p.x + q.y) (omega arith))

-- A free direction upwards lies in the middle sector.
top-sector : (x x' y : ℕ) (p q : Place) → 0 < y → x + x' ≤ y → Heads (A.top x x' y) p q → sector p q ≡ middleSector
top-sector x x' y p q h b k =
    simp (
      lt-leb q.y p.y (omega arith),
      and-false,
      lt-ltb p.y q.y (omega arith),
      le-leb (q.x + p.y) (p.x + q.y) (omega arith),
      le-leb (p.x + p.y) (q.x + q.y) (omega arith),
    )

-- ---- which lines count at a point

-- A side port is at the earlier end.
side-port : (v u p : ℕ) (b : Bend) (c : Kind) (s : Side) (j : ℕ) → bend_kind b ≡ side s j → u ≡ p →
    port_at p (record { later = v; earlier = u; bend = b; kind = c }) ≡ true
side-port v u p (Left i) c s j k q = eq-eqb u p q
side-port v u p (Right i) c s j k q = eq-eqb u p q
side-port v u p (Middle i) c s j k q = let z : ◌≡◌ {A = ℕ} 0 1 = cc in absurd (omega arith)
side-port v u p NoBend c s j k q = let z : ◌≡◌ {A = ℕ} 0 1 = cc in absurd (omega arith)

-- A middle port is at the later end.
middle_port_lem : (v u p : ℕ) (b : Bend) (c : Kind) (j : ℕ) → bend_kind b ≡ middle j → v ≡ p →
    port_at p (record { later = v; earlier = u; bend = b; kind = c }) ≡ true
middle_port_lem v u p (Left i) c j k q = let z : ◌≡◌ {A = ℕ} 0 1 = cc in absurd (omega arith)
middle_port_lem v u p (Right i) c j k q = let z : ◌≡◌ {A = ℕ} 0 1 = cc in absurd (omega arith)
middle_port_lem v u p (Middle i) c j k q = eq-eqb v p q
middle_port_lem v u p NoBend c j k q = let z : ◌≡◌ {A = ℕ} 0 1 = cc in absurd (omega arith)

-- A line e that counts at z in the sector σ came from a side, or covers z from above.
data Counts (g : Net) (z e : ℕ) (σ : Sector) : Type 0 where
  aside : (s : Side) → Came g z e s → σ ≡ side_sector s → Counts g z e σ
  upward : (j : ℕ) → g.kind e ≡ middle j → g.u e ≡ z → σ ≡ middleSector → Counts g z e σ

module _ (d : Drawing) (s : Bent d) where
  -- Every line that counts does so for one of these reasons.
  counts : (p e : ℕ) → IsLine d e → counts_at p (line_at d e) ≡ true → Counts (net_of d) (pred p) e (sector_of d p (line_at d e))
  counts p e el h = by_aim L.aimed.aim (leaving-heads L)
    where
      l : Line
      l = line_at d e

      ends : ends_at p l ≡ true
      ends = (both (ends_at p l) (not (port_at p l)) h).0

      away : port_at p l ≡ false
      away = not-true (port_at p l) (both (ends_at p l) (not (port_at p l)) h).1

      L : Leaving d p e
      L = leaving d s p e el ends

      here : (q : ℕ) → 0 < q → pred q ≡ pred p → q ≡ p
      here q b c = omega (arith, (end-placed d s p e el ends).0)

      by_aim : {a : Dir} → Aim (net_of d) (pred p) e a → Heads a (place_of d p) (towards d p l) → Counts (net_of d) (pred p) e (sector_of d p l)
      by_aim (out t j k q b c ea) w =
          absurd (true≢false (sym (side-port l.later l.earlier p l.bend l.kind t j k (here l.earlier (s.sound.ended.ends e el).0 q)) ∙ away))
      by_aim (free t x y c b b' ea) w = aside t c (free-sector t x y (place_of d p) (towards d p l) b b' (rw ea at w))
      by_aim (mid j k q b c ea) w =
          absurd (true≢false (sym (middle_port_lem l.later l.earlier p l.bend l.kind j k (here l.later (s.sound.ended.ends e el).1 q)) ∙ away))
      by_aim (top j x x' y k q b c ea) w = upward j k q (top-sector x x' y (place_of d p) (towards d p l) b c (rw ea at w))

-- ---- the two fields

-- The sectors are different from one another.
side-some : (s : Side) → side_sector s ≢ noSector
side-some rt q = let z : ◌≡◌ {A = ℕ} 0 1 = cc in omega arith
side-some lf q = let z : ◌≡◌ {A = ℕ} 0 1 = cc in omega arith

side_not_middle : (s : Side) → side_sector s ≢ middleSector
side_not_middle rt q = let z : ◌≡◌ {A = ℕ} 0 1 = cc in omega arith
side_not_middle lf q = let z : ◌≡◌ {A = ℕ} 0 1 = cc in omega arith

side_same : (s t : Side) → side_sector s ≡ side_sector t → s ≡ t
side_same rt rt q = refl
side_same rt lf q = let z : ◌≡◌ {A = ℕ} 0 1 = cc in absurd (omega arith)
side_same lf rt q = let z : ◌≡◌ {A = ℕ} 0 1 = cc in absurd (omega arith)
side_same lf lf q = refl

-- A line that counts does so in one of the three sectors.
some-sector : {g : Net} {z e : ℕ} {σ : Sector} → Counts g z e σ → σ ≢ noSector
some-sector (aside s c h) q = side-some s (sym h ∙ q)
some-sector (upward j k u h) q = let z : ◌≡◌ {A = ℕ} 0 1 = cc in omega arith

-- One line at most counts in each.
one_line_lem : {g : Net} (n : Inv g) {z e f : ℕ} {σ : Sector} → e < g.L → f < g.L → Counts g z e σ → Counts g z f σ → e ≡ f
one_line_lem {g} n {z} {e} {f} el fl (aside s c h) (aside t c' h') =
    came_once n s z e f el fl c (subst (Came g z f) (side_same t s (sym h' ∙ h)) c')
one_line_lem n el fl (aside s c h) (upward j k u h') = absurd (side_not_middle s (sym h ∙ h'))
one_line_lem n el fl (upward j k u h) (aside s c h') = absurd (side_not_middle s (sym h' ∙ h))
one_line_lem n {e = e} {f = f} el fl (upward i k u h) (upward j k' u' h') = n.frees.cover i j e f el fl k k' (u ∙ sym u')

module _ (d : Drawing) (s : Bent d) where
  -- A line that counts at a point leaves it into a free sector.
  pub sectors : Sectored d
  sectors p e el h = some-sector (counts d s p e el h)

  -- Two different lines that count at a point leave it into different sectors.
  pub single : Single d
  single p e f el fl n≢ h k q = n≢ (one_line_lem s.inv el fl (counts d s p e el h) (rw (sym q) at (counts d s p f fl k)))
