-- 4 outlives the step.
use Rattle.std.specs.Prelude.{ℕ, suc, ◌+◌, ◌<◌, ◌≤◌, ◌≡◌}
use Rattle.std.proofs.Common.{ap, arith}
use Rattle.std.proofs.Math.Decide.{dec_lt, ℕ_discrete}
use Rattle.rules.specs.declared.Style.TheVariants.{OneBend}
use Rattle.net.specs.Side.{Side, rt, lf, op, Cols, Past, at, cols-eq, cols-past}
use Rattle.net.specs.Net.{Net, Beyond, beyond_not}
use Rattle.net.specs.Inv.{Points, Aside, Lines, Ports, Slope, Reach, Slopes}
use Rattle.net.specs.Adds.{Adds, Bends}
use Rattle.net.specs.Walls.{tip_m, tip_in, tip-col}
use Rattle.net.specs.Ports.{Sided, was, new, sided, Mid, had, got, mid, fit, lower-end, same_col}

module _ {g g' : Net} {l r : ℕ} (h : Points OneBend g) (n : Lines OneBend g) (a : Adds OneBend g g' l r) where
  -- a line at an older port: the gap between its ends does not shrink, and grows where the port moves on
  keep-slope : (s : Side) (p q j : ℕ) → p < g.k → q < g.k → Cols s (g.col p) (g.col q) → g'.d s p ≡ g.d s p → Slope s g p q j → Slope s g' p q j
  keep-slope rt p q j pk qk c z f =
      record {
        rise = omega (arith, a.y' p pk, a.y' q qk);
        run = omega (arith, a.y' p pk, a.y' q qk, a.x' p pk, a.x' q qk, a.mono (g.col p) (g.col q) (omega arith));
      }
  keep-slope lf p q j pk qk c z f =
      record {
        rise = omega (arith, a.y' p pk, a.y' q qk);
        run = omega (arith, a.y' p pk, a.y' q qk, a.x' p pk, a.x' q qk, a.mono (g.col q) (g.col p) (omega arith));
      }

  grow_slope : (s : Side) (p q j : ℕ) → p < g.k → q < g.k → Past s (a.σ (g.col p)) (a.σ (g.col q)) → g'.d s p ≡ suc (g.d s p) → Slope s g p q j → Slope s g' p q j
  grow_slope rt p q j pk qk c z f =
      record { rise = omega (arith, a.y' p pk, a.y' q qk); run = omega (arith, a.y' p pk, a.y' q qk, a.x' p pk, a.x' q qk) }
  grow_slope lf p q j pk qk c z f =
      record { rise = omega (arith, a.y' p pk, a.y' q qk); run = omega (arith, a.y' p pk, a.y' q qk, a.x' p pk, a.x' q qk) }

  -- a new line at an end of the run: its port is the highest, and older ones keep below their later ends
  tip-slope : (s : Side) → (g.y (g.w (at s l r)) + suc (g.d s (g.w (at s l r))) ≤ g'.y g.k) → Beyond OneBend s g' (g.w (at s l r)) g.k →
      Slope s g' (g.w (at s l r)) g.k (suc (g.d s (g.w (at s l r))))
  tip-slope rt b f = record { rise = omega (arith, a.y' _ (tip_in h a rt)); run = omega (arith, a.d_tip rt) }
  tip-slope lf b f = record { rise = omega (arith, a.y' _ (tip_in h a lf)); run = omega (arith, a.d_tip lf) }

  tip-rise : (s : Side) → Ports OneBend g → Slopes g → g.y (g.w (at s l r)) + suc (g.d s (g.w (at s l r))) ≤ g'.y g.k
  tip-rise s b f =
      elim (dec_lt 0 (g.d s (g.w (at s l r)))) [
        | no z ↦ omega (arith, a.places.over s)
        | yes z ↦
            let e = b.used s (g.w (at s l r)) (g.d s (g.w (at s l r))) (tip_in h a s) z (omega arith) in
            omega (arith, lower-end h n a s _ e.0 e.1 e.2 e.3, (f.slope s _ e.0 e.1 e.2).rise, ap g.y e.3)
      ]

  -- the later end of a side's port of a boundary point lies in another column
  leaves : (s : Side) (q : ℕ) → q < g.k → Aside OneBend s g (g.w (at s l r)) q → Past s (at s l r) (g.col q)
  leaves s q qk f =
      cols-past s (rw (tip-col h a s) at f.cols)
      (λ e.
      beyond_not (op s) f.back
      (h.walls (op s) (at s l r) q (tip_m h a s) qk (λ i. let b = rw i at f.away in beyond_not s b b) (cols-eq (op s) e)))

  slope' : (s : Side) (j e : ℕ) → Bends g g' l r a → Ports OneBend g → Slopes g → Sided h n a s j e → Slope s g' (g'.u e) (g'.v e) j
  slope' s j e m b f (was el ek eu ev) =
      let i = n.ends e el in
      let c = (fit h n a s j e el ek).0 in
      rw (eu, ev)
      (elim (ℕ_discrete (g.u e) (g.w (at s l r))) [
        | yes z ↦
            grow_slope s (g.u e) (g.v e) j i.0 i.1
            (rw (z, tip-col h a s) (m.spread s (g.col (g.v e)) (leaves s (g.v e) i.1 (rw z at c))))
            (rw z (a.d_tip s))
            (f.slope s j e el ek)
        | no z ↦ keep-slope s (g.u e) (g.v e) j i.0 i.1 c.cols (a.d_old s (g.u e) i.0 z) (f.slope s j e el ek)
      ])
  slope' s j e m b f (new en ej eu ev) = rw (eu, ev, ej) (tip-slope s (tip-rise s b f) (a.places.near s))

  keep-reach : (p q i : ℕ) → p < g.k → q < g.k → g.col p ≡ g.col q → g'.h q ≡ g.h q → Reach g p q i → Reach g' p q i
  keep-reach p q i pk qk c z f =
      let xp = a.x' p pk in
      let xq = a.x' q qk in
      let yp = a.y' p pk in
      let yq = a.y' q qk in
      let e = ap a.σ c in
      record { first = f.first; last = omega arith; to_a = omega arith; to_b = omega arith }

  reach' : (j e : ℕ) → Bends g g' l r a → Slopes g → Mid h n a j e → Reach g' (g'.u e) (g'.v e) j
  reach' j e m f (had el ek eu ev) =
      let i = n.ends e el in
      rw (eu, ev) (keep-reach (g.u e) (g.v e) j i.0 i.1 (same_col (g.kind e) ek (n.fits e el)) (m.h' (g.v e) i.1) (f.reach j e el ek))
  reach' j e m f (got i li ir en ej eu ev) = rw (eu, ev, ej) (m.reaches i li ir)

  pub slopes' : Bends g g' l r a → Ports OneBend g → Slopes g → Slopes g'
  slopes' m b f =
      record {
        slope = λ s j e el ek. slope' s j e m b f (sided h n a s j e (a.line e el) ek);
        reach = λ j e el ek. reach' j e m f (mid h n a j e (a.line e el) ek);
      }
