-- The direction in which a line leaves its end: by roles, with the free sectors, and why two lines leave at a wide enough angle.
use Rattle.std.specs.Prelude.{ℕ, ◌+◌, ◌*◌, ◌-◌, ◌<◌, ◌≤◌, ◌≡◌, refl, ◌≢◌}
use Rattle.std.proofs.Common.{sym, ◌∙◌, inl, inr, arith}
use Rattle.std.proofs.Math.Decide.{dec_lt, ℕ_discrete}
use Rattle.rules.specs.declared.Place.{Place}
use Rattle.net.specs.Side.{Side, rt, lf, op, Which, which, same, other}
use Rattle.net.specs.Net.{Net, BendKind, side, middle, flat}
use Rattle.net.specs.Inv.{Bent, port, within, plain, Slope, Reach, Inv}
use Rattle.net.specs.Bend.{pt, turn, spot, start, bend, end}
use Rattle.net.specs.Shared.{Came, landed, based, came_once}
use Rattle.net.specs.Degs.{Degs, deg}
use Rattle.net.specs.Angles as A
use Rattle.net.specs.Angles.{Dir, Wide, wide-flip}

-- t lies from z in the direction a
pub record Heads (a : Dir) (z t : Place) : Type 0 where
  pub hx : t.x + a.w ≡ z.x + a.e
  pub hy : t.y + a.s ≡ z.y + a.n

-- the place for which a line with the bend b and the other end q leaves z
pub data Leaves (z b q t : Place) : Type 0 where
  turning : (b.x ≡ z.x → b.y ≡ z.y → ⊥) → t ≡ b → Leaves z b q t
  straight : b.x ≡ z.x → b.y ≡ z.y → t ≡ q → Leaves z b q t

-- the direction a of the line e at its end z, by its role
pub data Aim (g : Net) (z e : ℕ) (a : Dir) : Type 0 where
  out : (s : Side) (j : ℕ) → g.kind e ≡ side s j → g.u e ≡ z → 0 < j → j ≤ g.d s z → a ≡ A.port s (g.d s z) j → Aim g z e a
  free : (s : Side) (x y : ℕ) → Came g z e s → 0 < x → y ≤ x → a ≡ A.free s x y → Aim g z e a
  mid : (j : ℕ) → g.kind e ≡ middle j → g.v e ≡ z → 0 < j → j < 2 * g.h z → a ≡ A.mid (j - g.h z) (g.h z - j) (g.h z) → Aim g z e a
  top : (j x x' y : ℕ) → g.kind e ≡ middle j → g.u e ≡ z → 0 < y → x + x' ≤ y → a ≡ A.top x x' y → Aim g z e a

pub record Aimed (g : Net) (z e : ℕ) (b q : Place) : Type 0 where
  pub to : Place
  pub leaves : Leaves (pt g z) b q to
  pub dir : Dir
  pub heads : Heads dir (pt g z) to
  pub aim : Aim g z e dir

module _ (g : Net) (p q : ℕ) where
  port-heads : (s : Side) (j : ℕ) → Slope s g p q j → Heads (A.port s (g.d s p) j) (pt g p) (turn g p q (side s j))
  port-heads rt j f = omega arith
  port-heads lf j f = omega arith

  mid-heads : (j : ℕ) → g.y q ≤ g.x q → Reach g p q j → Heads (A.mid (j - g.h q) (g.h q - j) (g.h q)) (pt g q) (turn g p q (middle j))
  mid-heads j c f = record { hx = omega arith; hy = omega arith }

module _ {g : Net} (n : Inv g) where
  -- the free piece of a middle line, or its port piece where the free one has no length
  top-aim : (e j : ℕ) → g.kind e ≡ middle j → g.y (g.v e) ≤ g.x (g.v e) → Reach g (g.u e) (g.v e) j →
      Aimed g (g.u e) e (turn g (g.u e) (g.v e) (middle j)) (pt g (g.v e))
  top-aim e j k c f =
      elim (ℕ_discrete (g.y (g.v e) - g.h (g.v e)) (g.y (g.u e))) [
        | yes i ↦
            record {
              to = pt g (g.v e);
              leaves = straight (omega arith) i refl;
              dir = A.top (g.h (g.v e) - j) (j - g.h (g.v e)) (g.h (g.v e));
              heads = record { hx = omega arith; hy = omega arith };
              aim = top j (g.h (g.v e) - j) (j - g.h (g.v e)) (g.h (g.v e)) k refl (omega arith) (omega arith) refl;
            }
        | no i ↦
            let Q = turn g (g.u e) (g.v e) (middle j) in
            let y = g.y (g.v e) - g.h (g.v e) - g.y (g.u e) in
            record {
              to = Q;
              leaves = turning (λ a b. i b) refl;
              dir = A.top (Q.x - g.x (g.u e)) (g.x (g.u e) - Q.x) y;
              heads = record { hx = omega arith; hy = omega arith };
              aim = top j (Q.x - g.x (g.u e)) (g.x (g.u e) - Q.x) y k refl (omega arith) (omega arith) refl;
            }
      ]

  start-aim : (e : ℕ) → e < g.L → (κ : BendKind) → g.kind e ≡ κ → Bent g (g.u e) (g.v e) κ → Aimed g (g.u e) e (turn g (g.u e) (g.v e) κ) (pt g (g.v e))
  start-aim e el (side rt j) k (port f b c) =
      record {
        to = turn g (g.u e) (g.v e) (side rt j);
        leaves = turning (λ h i. omega arith) refl;
        dir = A.port rt (g.d rt (g.u e)) j;
        heads = port-heads g (g.u e) (g.v e) rt j (n.slopes.slope rt j e el k);
        aim = out rt j k refl b c refl;
      }
  start-aim e el (side lf j) k (port f b c) =
      record {
        to = turn g (g.u e) (g.v e) (side lf j);
        leaves = turning (λ h i. omega arith) refl;
        dir = A.port lf (g.d lf (g.u e)) j;
        heads = port-heads g (g.u e) (g.v e) lf j (n.slopes.slope lf j e el k);
        aim = out lf j k refl b c refl;
      }
  start-aim e el (middle j) k (within f b c) = top-aim e j k (n.core.points.frame (g.v e) (n.core.lines.ends e el).1) (n.slopes.reach j e el k)
  start-aim e el flat k (plain f c) =
      record {
        to = pt g (g.v e);
        leaves = straight refl refl refl;
        dir = A.free rt (g.x (g.v e) - g.x (g.u e)) 0;
        heads = record { hx = omega arith; hy = omega arith };
        aim = free rt (g.x (g.v e) - g.x (g.u e)) 0 (based k (inl refl)) (omega arith) (omega arith) refl;
      }

  -- the free piece of a side's line at its later end, or the port piece
  right_aim : (e j : ℕ) → g.kind e ≡ side rt j → j ≤ g.d rt (g.u e) → Slope rt g (g.u e) (g.v e) j →
      Aimed g (g.v e) e (turn g (g.u e) (g.v e) (side rt j)) (pt g (g.u e))
  right_aim e j k c f =
      let P = turn g (g.u e) (g.v e) (side rt j) in
      elim (ℕ_discrete P.x (g.x (g.v e))) [
        | yes i ↦
            record {
              to = pt g (g.u e);
              leaves = straight i (omega arith) refl;
              dir = A.free lf (g.d rt (g.u e) + 1) j;
              heads = record { hx = omega arith; hy = omega arith };
              aim = free lf (g.d rt (g.u e) + 1) j (landed j k refl) (omega arith) (omega arith) refl;
            }
        | no i ↦
            record {
              to = P;
              leaves = turning (λ a b. i a) refl;
              dir = A.free lf (g.x (g.v e) - P.x) (g.y (g.v e) - P.y);
              heads = record { hx = omega arith; hy = omega arith };
              aim = free lf (g.x (g.v e) - P.x) (g.y (g.v e) - P.y) (landed j k refl) (omega arith) (omega arith) refl;
            }
      ]

  left_aim : (e j : ℕ) → g.kind e ≡ side lf j → j ≤ g.d lf (g.u e) → Slope lf g (g.u e) (g.v e) j →
      Aimed g (g.v e) e (turn g (g.u e) (g.v e) (side lf j)) (pt g (g.u e))
  left_aim e j k c f =
      let P = turn g (g.u e) (g.v e) (side lf j) in
      elim (ℕ_discrete P.x (g.x (g.v e))) [
        | yes i ↦
            record {
              to = pt g (g.u e);
              leaves = straight i (omega arith) refl;
              dir = A.free rt (g.d lf (g.u e) + 1) j;
              heads = record { hx = omega arith; hy = omega arith };
              aim = free rt (g.d lf (g.u e) + 1) j (landed j k refl) (omega arith) (omega arith) refl;
            }
        | no i ↦
            record {
              to = P;
              leaves = turning (λ a b. i a) refl;
              dir = A.free rt (P.x - g.x (g.v e)) (g.y (g.v e) - P.y);
              heads = record { hx = omega arith; hy = omega arith };
              aim = free rt (P.x - g.x (g.v e)) (g.y (g.v e) - P.y) (landed j k refl) (omega arith) (omega arith) refl;
            }
      ]

  end-aim : (e : ℕ) → e < g.L → (κ : BendKind) → g.kind e ≡ κ → Bent g (g.u e) (g.v e) κ → Aimed g (g.v e) e (turn g (g.u e) (g.v e) κ) (pt g (g.u e))
  end-aim e el (side rt j) k (port f b c) = right_aim e j k c (n.slopes.slope rt j e el k)
  end-aim e el (side lf j) k (port f b c) = left_aim e j k c (n.slopes.slope lf j e el k)
  end-aim e el (middle j) k (within f b c) =
      let r = n.slopes.reach j e el k in
      record {
        to = turn g (g.u e) (g.v e) (middle j);
        leaves = turning (λ a b. omega (arith, r)) refl;
        dir = A.mid (j - g.h (g.v e)) (g.h (g.v e) - j) (g.h (g.v e));
        heads = mid-heads g (g.u e) (g.v e) j (n.core.points.frame (g.v e) (n.core.lines.ends e el).1) r;
        aim = mid j k refl r.first r.last refl;
      }
  end-aim e el flat k (plain f c) =
      record {
        to = pt g (g.u e);
        leaves = turning (λ a b. omega arith) refl;
        dir = A.free lf (g.x (g.v e) - g.x (g.u e)) 0;
        heads = record { hx = omega arith; hy = omega arith };
        aim = free lf (g.x (g.v e) - g.x (g.u e)) 0 (based k (inr refl)) (omega arith) (omega arith) refl;
      }

  pub aim-start : (e : ℕ) → e < g.L → Aimed g (g.u e) e (spot g e bend) (spot g e end)
  aim-start e el = start-aim e el (g.kind e) refl (n.core.lines.fits e el)

  pub aim-end : (e : ℕ) → e < g.L → Aimed g (g.v e) e (spot g e bend) (spot g e start)
  aim-end e el = end-aim e el (g.kind e) refl (n.core.lines.fits e el)

  -- ---- any two lines at z

  module _ (t : Degs g) (z : ℕ) (zk : z < g.k) where
    abbrev K : ℕ
    K = 2 * deg g z - 1

    K-side : (s : Side) → 2 * g.d s z + 1 ≤ K
    K-side s = omega (arith, t.sides s z zk)

    K-one : 1 ≤ K
    K-one = omega (arith, t.sides rt z zk)

    K-mid : 4 * g.h z ≤ K + 1
    K-mid = omega (arith, t.depth z zk, t.sides rt z zk)

    out_free : (s s' : Side) (j x y : ℕ) → Which s s' → 0 < j → Wide K (A.port s (g.d s z) j) (A.free s' x y)
    out_free s s' j x y same b = A.port-free s K (g.d s z) j x y (K-side s) b
    out_free s s' j x y other b = A.port-away s K (g.d s z) j x y

    module _ (e f : ℕ) (el : e < g.L) (fl : f < g.L) (n≢ : e ≢ f) where
      out_out : (s s' : Side) (i j : ℕ) → Which s s' → g.kind e ≡ side s i → g.kind f ≡ side s' j → g.u e ≡ z → g.u f ≡ z → i ≤ g.d s z → j ≤ g.d s' z →
          Wide K (A.port s (g.d s z) i) (A.port s' (g.d s' z) j)
      out_out s s' i j other ek fk eu fu b c = A.port_other s K (g.d s z) (g.d (op s) z) i j b c
      out_out s s' i j same ek fk eu fu b c =
          elim (dec_lt i j) [
            | yes h ↦ A.port-port s K (g.d s z) i j (K-side s) h c
            | no h ↦ elim (dec_lt j i) [
              | yes h' ↦ wide-flip (A.port-port s K (g.d s z) j i (K-side s) h' b)
              | no h' ↦ let q : j ≡ i = omega arith in absurd (n≢ (n.ports.once s i e f el fl ek (rw q at fk) (eu ∙ sym fu)))
            ]
          ]

      mid-mid : (i j : ℕ) → g.kind e ≡ middle i → g.kind f ≡ middle j → g.v e ≡ z → g.v f ≡ z → i < 2 * g.h z → j < 2 * g.h z →
          Wide K (A.mid (i - g.h z) (g.h z - i) (g.h z)) (A.mid (j - g.h z) (g.h z - j) (g.h z))
      mid-mid i j ek fk ev fv b c =
          elim (dec_lt i j) [
            | yes h ↦ A.mid-mid K _ _ _ _ (g.h z) K-mid (omega arith) (omega arith) (omega arith) (omega arith) (omega arith)
            | no h ↦ elim (dec_lt j i) [
              | yes h' ↦ wide-flip (A.mid-mid K _ _ _ _ (g.h z) K-mid (omega arith) (omega arith) (omega arith) (omega arith) (omega arith))
              | no h' ↦ let q : j ≡ i = omega arith in absurd (n≢ (n.ports.single i e f el fl ek (rw q at fk) (ev ∙ sym fv)))
            ]
          ]

      free-free : (s s' : Side) (x y x' y' : ℕ) → Which s s' → Came g z e s → Came g z f s' → y ≤ x → y' ≤ x' → Wide K (A.free s x y) (A.free s' x' y')
      free-free s s' x y x' y' same c d b b' = absurd (n≢ (came_once n s z e f el fl c d))
      free-free s s' x y x' y' other c d b b' = A.free-free s K x y x' y' b b'

      pub wide : {a b : Dir} → Aim g z e a → Aim g z f b → Wide K a b
      wide (out s i ek eu p q ea) (out s' j fk fu p' q' eb) = rw (ea, eb) (out_out s s' i j (which s s') ek fk eu fu q q')
      wide (out s i ek eu p q ea) (free s' x y c p' q' eb) = rw (ea, eb) (out_free s s' i x y (which s s') p)
      wide (out s i ek eu p q ea) (mid j fk fv p' q' eb) = rw (ea, eb) (A.port-mid s K (g.d s z) i _ _ (g.h z) K-one q (omega arith))
      wide (out s i ek eu p q ea) (top j x x' y fk fu p' q' eb) = rw (ea, eb) (A.port-top s K (g.d s z) i x x' y (K-side s) q (omega arith) (omega arith))
      wide (free s x y c p q ea) (out s' j fk fu p' q' eb) = rw (ea, eb) (wide-flip (out_free s' s j x y (which s' s) p'))
      wide (free s x y c p q ea) (free s' x' y' c' p' q' eb) = rw (ea, eb) (free-free s s' x y x' y' (which s s') c c' q q')
      wide (free s x y c p q ea) (mid j fk fv p' q' eb) = rw (ea, eb) (wide-flip (A.mid-free s K _ _ (g.h z) x y K-mid (omega arith) (omega arith) q))
      wide (free s x y c p q ea) (top j v v' w fk fu p' q' eb) = rw (ea, eb) (A.free-top s K x y v v' w K-one q q')
      wide (mid i ek ev p q ea) (out s' j fk fu p' q' eb) = rw (ea, eb) (wide-flip (A.port-mid s' K (g.d s' z) j _ _ (g.h z) K-one q' (omega arith)))
      wide (mid i ek ev p q ea) (free s' x' y' c' p' q' eb) = rw (ea, eb) (A.mid-free s' K _ _ (g.h z) x' y' K-mid (omega arith) (omega arith) q')
      wide (mid i ek ev p q ea) (mid j fk fv p' q' eb) = rw (ea, eb) (mid-mid i j ek fk ev fv q q')
      wide (mid i ek ev p q ea) (top j v v' w fk fu p' q' eb) = rw (ea, eb) (A.mid-top K _ _ (g.h z) v v' w (omega arith) (omega arith) (omega arith))
      wide (top i v v' w ek eu p q ea) (out s' j fk fu p' q' eb) = rw (ea, eb) (wide-flip (A.port-top s' K (g.d s' z) j v v' w (K-side s') q' (omega arith) (omega arith)))
      wide (top i v v' w ek eu p q ea) (free s' x' y' c' p' q' eb) = rw (ea, eb) (wide-flip (A.free-top s' K x' y' v v' w K-one q' q))
      wide (top i v v' w ek eu p q ea) (mid j fk fv p' q' eb) = rw (ea, eb) (wide-flip (A.mid-top K _ _ (g.h z) v v' w (omega arith) (omega arith) (omega arith)))
      wide (top i v v' w ek eu p q ea) (top j x x' y fk fu p' q' eb) = absurd (n≢ (n.frees.cover i j e f el fl ek fk (eu ∙ sym fu)))
