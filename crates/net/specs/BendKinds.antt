-- 3 outlives the step, and the lines of the new net are those of the old one and the new ones.
use Rattle.std.specs.Prelude.{ℕ, suc, ◌+◌, ◌-◌, ◌<◌, ◌≤◌, ◌≡◌}
use Rattle.std.proofs.Common.{sym, ap, ◌∙◌, arith}
use Rattle.std.proofs.Math.Decide.{ℕ_discrete}
use Rattle.rules.specs.declared.Style.{Style}
use Rattle.rules.specs.declared.Style.TheVariants.{OneBend, Straight}
use Rattle.rules.specs.Styles.{taken}
use Rattle.net.specs.Side.{Side, rt, lf, op, Cols, at, at_in, cols-self, cols-eq, cols-op, at_op, at_inj, at_out}
use Rattle.net.specs.Net.{Net, BendKind, side, middle, flat, side_kind, beyond_apart}
use Rattle.net.specs.Inv.{Points, Aside, Bent, port, within, plain, Leans, aside, upright, Fits, Lines}
use Rattle.net.specs.Adds.{Line, old, tip, rib, Adds}
use Rattle.net.specs.Walls.{keep_beyond, join-cols, upto_new, tip_m, tip_in, tip-col}

-- a fit of either drawing leans
pub leans : (τ : Style) {g : Net} {p q : ℕ} (κ : BendKind) → Fits τ g p q κ → Leans τ g p q
leans OneBend (side s j) (port f b c) = aside s f
leans OneBend (middle i) (within e b c) = upright e b
leans OneBend flat (plain f c) = aside rt f
leans Straight κ f = f.1

-- the ends of a line lie at two places
pub ends-apart : {τ : Style} {g : Net} → Lines τ g → (e : ℕ) → e < g.L → g.x (g.u e) ≡ g.x (g.v e) → g.y (g.u e) ≡ g.y (g.v e) → ⊥
ends-apart {τ} {g} n e el x y = go (leans τ (g.kind e) (n.fits e el))
  where
    go : Leans τ g (g.u e) (g.v e) → ⊥
    go (aside s f) = beyond_apart s f.away x y
    go (upright c b) = beyond_apart rt b (sym x) (sym y)

module _ {τ : Style} {g g' : Net} {l r : ℕ} (h : Points τ g) (a : Adds τ g g' l r) where
  pub keep-cols : (s : Side) {p q : ℕ} → p < g.k → q < g.k → Cols s (g.col p) (g.col q) → Cols s (g'.col p) (g'.col q)
  keep-cols s {p} {q} pk qk c = rw (a.col' p pk, a.col' q qk) (join-cols s a.lr c)

  keep-aside : (s : Side) (p q : ℕ) → p < g.k → q < g.k → Aside τ s g p q → Aside τ s g' p q
  keep-aside s p q pk qk f =
      record {
        cols = keep-cols s pk qk f.cols;
        away = keep_beyond h a s pk qk f.cols f.away;
        back = keep_beyond h a (op s) qk pk (cols-op s f.cols) f.back;
      }

  keep-leans : (p q : ℕ) → p < g.k → q < g.k → Leans τ g p q → Leans τ g' p q
  keep-leans p q pk qk (aside s f) = aside s (keep-aside s p q pk qk f)
  keep-leans p q pk qk (upright e b) = upright (rw (a.col' p pk, a.col' q qk, e)) (keep_beyond h a rt qk pk (cols-eq rt (sym e)) b)

  -- a new line to an end of the run
  pub tip-aside : (s : Side) → Aside τ s g' (g.w (at s l r)) g.k
  tip-aside s =
      record {
        cols = rw (a.col' (g.w (at s l r)) (tip_in h a s), a.col_new, tip-col h a s) (upto_new s a.lr (cols-self s));
        away = a.places.near s;
        back = a.places.far (op s) (at s l r) (tip_m h a s) (at_op s a.lr);
      }

  -- a new line to a point inside it
  rib-col : (i : ℕ) → l < i → i < r → g'.col (g.w i) ≡ g'.col g.k
  rib-col i li ir = let o = h.on i (omega (arith, a.rm)) in rw (a.col' (g.w i) o.0, a.col_new, o.1) (omega arith)

  pub ends' : (e : ℕ) → Lines τ g → Line τ g g' l r a.port e → (g'.u e < g'.k) × (g'.v e < g'.k)
  ends' e n (old el eu ev ek) = let o = n.ends e el in omega (arith, a.k')
  ends' e n (tip s i eu ev ek) = omega (arith, a.k', tip_in h a s)
  ends' e n (rib i li ir en eu ev ek) = omega (arith, a.k', h.on i (omega (arith, a.rm)))

  -- the lines of g are in g', and so are the new ones
  pub stays : (e : ℕ) → e < g.L → (e < g'.L) × (g'.kind e ≡ g.kind e) × (g'.u e ≡ g.u e) × (g'.v e ≡ g.v e)
  stays e el = let b : e < g'.L = omega (arith, a.L', a.lr) in go b (a.line e b)
    where
      go : e < g'.L → Line τ g g' l r a.port e → (e < g'.L) × (g'.kind e ≡ g.kind e) × (g'.u e ≡ g.u e) × (g'.v e ≡ g.v e)
      go b (old el eu ev ek) = (b, ek, eu, ev)
      go b (tip t i eu ev ek) = absurd (omega (arith, at_in t a.lr))
      go b (rib i li ir en eu ev ek) = absurd (omega arith)

  pub tips : (s : Side) → (e : ℕ) × (e < g'.L) × (g'.kind e ≡ side_kind τ s (taken τ (g.d s (g.w (at s l r))))) × (g'.u e ≡ g.w (at s l r)) × (g'.v e ≡ g.k)
  tips s = let b : g.L + (at s l r - l) < g'.L = omega (arith, a.L', o) in go b (a.line (g.L + (at s l r - l)) b)
    where
      o : (l ≤ at s l r) × (at s l r ≤ r)
      o = at_in s a.lr

      go : g.L + (at s l r - l) < g'.L → Line τ g g' l r a.port (g.L + (at s l r - l)) →
          (e : ℕ) × (e < g'.L) × (g'.kind e ≡ side_kind τ s (taken τ (g.d s (g.w (at s l r))))) × (g'.u e ≡ g.w (at s l r)) × (g'.v e ≡ g.k)
      go b (old el eu ev ek) = absurd (omega arith)
      go b (tip t i eu ev ek) = let z : t ≡ s = at_inj s t a.lr (omega (arith, o)) in (_, b, rw z at ek, rw z at eu, ev)
      go b (rib i li ir en eu ev ek) = absurd (at_out s li ir (omega (arith, o)))

-- ---- where lines bend

module _ {g g' : Net} {l r : ℕ} (h : Points OneBend g) (a : Adds OneBend g g' l r) where
  -- no count falls
  pub d_more : (s : Side) (p : ℕ) → p < g.k → g.d s p ≤ g'.d s p
  d_more s p pk =
      elim (ℕ_discrete p (g.w (at s l r))) [
        | yes e ↦ omega (arith, ap (g.d s) e, ap (g'.d s) e, a.d_tip s)
        | no n ↦ omega (arith, a.d_old s p pk n)
      ]

  keep-bent : (p q : ℕ) (κ : BendKind) → p < g.k → q < g.k → Bent g p q κ → Bent g' p q κ
  keep-bent p q (side s j) pk qk (port f b c) = let d = d_more s p pk in port (keep-aside h a s p q pk qk f) b (omega arith)
  keep-bent p q (middle i) pk qk (within e b b') =
      within (rw (a.col' p pk, a.col' q qk, e)) (keep_beyond h a rt qk pk (cols-eq rt (sym e)) b) (keep_beyond h a lf qk pk (cols-eq lf (sym e)) b')
  keep-bent p q flat pk qk (plain f c) = plain (keep-aside h a rt p q pk qk f) (omega (arith, a.y' p pk, a.y' q qk))

  bent' : (e : ℕ) → Lines OneBend g → Line OneBend g g' l r a.port e → Bent g' (g'.u e) (g'.v e) (g'.kind e)
  bent' e n (old el eu ev ek) = rw (eu, ev, ek) (keep-bent _ _ _ (n.ends e el).0 (n.ends e el).1 (n.fits e el))
  bent' e n (tip s i eu ev ek) =
      rw (eu, ev, ek) (port {j = suc (g.d s (g.w (at s l r)))} (tip-aside h a s) (omega arith) (omega (arith, a.d_tip s)))
  bent' e n (rib i li ir en eu ev ek) =
      let im : i < g.m = omega (arith, a.rm) in
      rw (eu, ev, ek) (within (rib-col h a i li ir) (a.places.far rt i im (omega arith)) (a.places.far lf i im (omega arith)))

-- ---- and where they don't

straight' : {g g' : Net} {l r : ℕ} (h : Points Straight g) (a : Adds Straight g g' l r) (e : ℕ) → Lines Straight g → Line Straight g g' l r a.port e →
    Fits Straight g' (g'.u e) (g'.v e) (g'.kind e)
straight' h a e n (old el eu ev ek) = let f = n.fits e el in (ek ∙ f.0, rw (eu, ev) (keep-leans h a _ _ (n.ends e el).0 (n.ends e el).1 f.1))
straight' h a e n (tip s i eu ev ek) = (ek, rw (eu, ev) (aside s (tip-aside h a s)))
straight' h a e n (rib i li ir en eu ev ek) = (ek, rw (eu, ev) (upright (rib-col h a i li ir) (a.places.far rt i (omega (arith, a.rm)) (omega arith))))

pub fits' : (τ : Style) {g g' : Net} {l r : ℕ} (h : Points τ g) (a : Adds τ g g' l r) (e : ℕ) → Lines τ g → Line τ g g' l r a.port e →
    Fits τ g' (g'.u e) (g'.v e) (g'.kind e)
fits' OneBend h a e n t = bent' h a e n t
fits' Straight h a e n t = straight' h a e n t
