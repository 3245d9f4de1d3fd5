-- 7 outlives the step.
use Rattle.std.specs.Prelude.{ℕ, suc, ◌+◌, ◌<◌, ◌≤◌, ◌≡◌, ◌≢◌}
use Rattle.std.proofs.Common.{sym, ap, ◌∙◌, arith}
use Rattle.std.proofs.Math.Decide.{dec_le, dec_lt, ℕ_discrete}
use Rattle.rules.specs.declared.Style.TheVariants.{OneBend}
use Rattle.net.specs.Side.{Side, rt, lf, op, Cols, at, cols-eq, at_op, past-cols, past_not, between, Which, same, other, which}
use Rattle.net.specs.Net.{Net, BendKind, side, middle, Beyond, beyond_not, Clear, beside, above}
use Rattle.net.specs.Inv.{Points, Aside, Fits, port, within, Lines, Ports}
use Rattle.net.specs.Adds.{Line, old, tip, rib, Adds}
use Rattle.net.specs.BendKinds.{stays, tips}
use Rattle.net.specs.Walls.{chain, keep_beyond, under_new, by_point, tip_m, tip_in, tip-col}

-- what a kind with a port tells of the fit
pub aside_of : {g : Net} {p q : ℕ} (κ : BendKind) {s : Side} {j : ℕ} → κ ≡ side s j → Fits OneBend g p q κ → Aside OneBend s g p q × (0 < j) × (j ≤ g.d s p)
aside_of κ e f = go (rw e at f)
  where
    go : {g : Net} {p q : ℕ} {s : Side} {j : ℕ} → Fits OneBend g p q (side s j) → Aside OneBend s g p q × (0 < j) × (j ≤ g.d s p)
    go (port f b c) = (f, b, c)

pub within_of : {g : Net} {p q : ℕ} (κ : BendKind) {j : ℕ} → κ ≡ middle j → Fits OneBend g p q κ → (g.col p ≡ g.col q) × Beyond OneBend rt g q p × Beyond OneBend lf g q p
within_of κ e f = go (rw e at f)
  where
    go : {g : Net} {p q : ℕ} {j : ℕ} → Fits OneBend g p q (middle j) → (g.col p ≡ g.col q) × Beyond OneBend rt g q p × Beyond OneBend lf g q p
    go (within e b c) = (e, b, c)

pub same_col : {g : Net} {p q : ℕ} (κ : BendKind) {j : ℕ} → κ ≡ middle j → Fits OneBend g p q κ → g.col p ≡ g.col q
same_col κ e f = (within_of κ e f).0

module _ {g g' : Net} {l r : ℕ} (h : Points OneBend g) (n : Lines OneBend g) (a : Adds OneBend g g' l r) where
  -- a line of g' at a side's port, and one at a middle port
  pub data Sided (s : Side) (j e : ℕ) : Type 0 where
    was : e < g.L → g.kind e ≡ side s j → g'.u e ≡ g.u e → g'.v e ≡ g.v e → Sided s j e
    new : e + l ≡ g.L + at s l r → j ≡ suc (g.d s (g.w (at s l r))) → g'.u e ≡ g.w (at s l r) → g'.v e ≡ g.k → Sided s j e

  pub data Mid (j e : ℕ) : Type 0 where
    had : e < g.L → g.kind e ≡ middle j → g'.u e ≡ g.u e → g'.v e ≡ g.v e → Mid j e
    got : (i : ℕ) → l < i → i < r → e + l ≡ g.L + i → j ≡ a.port i → g'.u e ≡ g.w i → g'.v e ≡ g.k → Mid j e

  pub sided : (s : Side) (j e : ℕ) → Line OneBend g g' l r a.port e → g'.kind e ≡ side s j → Sided s j e
  sided s j e (old el eu ev ek) q = was el (cc) eu ev
  sided s j e (tip t i eu ev ek) q =
      let ts : t ≡ s = cc in
      let jd : j ≡ suc (g.d t (g.w (at t l r))) = cc in
      new (rw ts at i) (rw ts at jd) (rw ts at eu) ev
  sided s j e (rib i li ir en eu ev ek) q = let z : ◌≡◌ {A = ℕ} 0 1 = cc in absurd (omega arith)

  pub mid : (j e : ℕ) → Line OneBend g g' l r a.port e → g'.kind e ≡ middle j → Mid j e
  mid j e (old el eu ev ek) q = had el (cc) eu ev
  mid j e (tip t i eu ev ek) q = let z : ◌≡◌ {A = ℕ} 0 1 = cc in absurd (omega arith)
  mid j e (rib i li ir en eu ev ek) q = got i li ir en (cc) eu ev

  pub fit : (s : Side) (j e : ℕ) → e < g.L → g.kind e ≡ side s j → Aside OneBend s g (g.u e) (g.v e) × (0 < j) × (j ≤ g.d s (g.u e))
  fit s j e el q = aside_of (g.kind e) q (n.fits e el)

  -- the later end of an older port at an end of the run is lower than the new point
  pub lower-end : (s : Side) (j e : ℕ) → e < g.L → g.kind e ≡ side s j → g.u e ≡ g.w (at s l r) → g.y (g.v e) < g'.y g.k
  lower-end s j e el q eu =
      elim (ℕ_discrete (g.w (at (op s) l r)) (g.v e)) [
        | yes i ↦ omega (arith, ap g.y i, a.places.over (op s))
        | no i ↦ go (n.tri e (g.w (at (op s) l r)) el (tip_in h a (op s)) far i)
      ]
    where
      ce : g.col (g.u e) ≡ at s l r
      ce = rw eu (tip-col h a s)

      far : g.w (at (op s) l r) ≢ g.u e
      far i = past_not (op s) (at_op s a.lr) (cols-eq (op s) (omega (arith, ap g.col i, ce, tip-col h a (op s))))

      by_side : (t : Side) → Which s t → Cols t (g.col (g.v e)) (g.col (g.w (at (op s) l r))) → Beyond OneBend t g (g.u e) (g.w (at (op s) l r)) → g.y (g.v e) < g'.y g.k
      by_side t same c b =
          let f = between s l r (rw ce at (fit s j e el q).0.cols) (rw (tip-col h a (op s)) at c) in
          under_new h a (g.v e) (n.ends e el).1 f.0 f.1
      by_side t other c b =
          absurd
          (beyond_not (op s) b
          (h.walls (op s) (at (op s) l r) (g.u e) (tip_m h a (op s)) (n.ends e el).0 (λ i. far (sym i)) (rw ce (past-cols (op s) (at_op s a.lr)))))

      go : Clear OneBend g (g.u e) (g.v e) (g.w (at (op s) l r)) → g.y (g.v e) < g'.y g.k
      go (beside t c c' b b') = by_side t (which s t) c' b
      go (above b b') = omega (arith, a.places.over (op s))

  -- ---- side ports

  stack' : (s : Side) (i j e f : ℕ) → Ports OneBend g → Sided s i e → Sided s j f → g'.u e ≡ g'.u f → i < j → g'.y (g'.v e) < g'.y (g'.v f)
  stack' s i j e f b (was el ek eu ev) (was fl fk fu fv) q lt =
      rw (ev, fv)
      (omega (arith, b.stack s i j e f el fl ek fk (omega arith) lt, a.y' (g.v e) (n.ends e el).1, a.y' (g.v f) (n.ends f fl).1))
  stack' s i j e f b (was el ek eu ev) (new fn fj fu fv) q lt =
      rw (ev, fv) (omega (arith, lower-end s i e el ek (omega arith), a.y' (g.v e) (n.ends e el).1))
  stack' s i j e f b (new en ej eu ev) (was fl fk fu fv) q lt =
      let z : g.u f ≡ g.w (at s l r) = omega arith in
      absurd (omega (arith, (fit s j f fl fk).2, ap (g.d s) z))
  stack' s i j e f b (new en ej eu ev) (new fn fj fu fv) q lt = absurd (omega arith)

  once' : (s : Side) (j e f : ℕ) → Ports OneBend g → Sided s j e → Sided s j f → g'.u e ≡ g'.u f → e ≡ f
  once' s j e f b (was el ek eu ev) (was fl fk fu fv) q = b.once s j e f el fl ek fk (omega arith)
  once' s j e f b (was el ek eu ev) (new fn fj fu fv) q =
      let z : g.u e ≡ g.w (at s l r) = omega arith in absurd (omega (arith, (fit s j e el ek).2, ap (g.d s) z))
  once' s j e f b (new en ej eu ev) (was fl fk fu fv) q =
      let z : g.u f ≡ g.w (at s l r) = omega arith in absurd (omega (arith, (fit s j f fl fk).2, ap (g.d s) z))
  once' s j e f b (new en ej eu ev) (new fn fj fu fv) q = omega arith

  used' : (s : Side) (p j : ℕ) → Ports OneBend g → p < g.k → 0 < j → j ≤ g'.d s p → (e : ℕ) × (e < g'.L) × (g'.kind e ≡ side s j) × (g'.u e ≡ p)
  used' s p j b pk z c =
      elim (dec_le j (g.d s p)) [
        | yes q ↦
            let f = b.used s p j pk z q in
            let t = stays h a f.0 f.1 in
            (f.0, t.0, t.1 ∙ f.2, t.2 ∙ f.3)
        | no q ↦ elim (ℕ_discrete p (g.w (at s l r))) [
          | yes i ↦
              let f = tips h a s in
              let ji : j ≡ suc (g.d s (g.w (at s l r))) = omega (arith, a.d_tip s, ap (g.d s) i, ap (g'.d s) i) in
              (f.0, f.1, rw ji f.2, rw i f.3)
          | no i ↦ absurd (omega (arith, a.d_old s p pk i))
        ]
      ]

  -- ---- middle ports

  port-lt : (i j : ℕ) → l < i → i < r → l < j → j < r → a.port i < a.port j → i < j
  port-lt i j li ir lj jr lt =
      elim (dec_lt i j) [
        | yes b ↦ b
        | no b ↦ elim (ℕ_discrete i j) [
          | yes e ↦ absurd (omega (arith, ap a.port e))
          | no c ↦ absurd (omega (arith, a.rising j i lj (omega arith) ir))
        ]
      ]

  port-eq : (i j : ℕ) → l < i → i < r → l < j → j < r → a.port i ≡ a.port j → i ≡ j
  port-eq i j li ir lj jr e =
      elim (dec_lt i j) [
        | yes b ↦ absurd (omega (arith, a.rising i j li b jr))
        | no b ↦ elim (dec_lt j i) [
          | yes c ↦ absurd (omega (arith, a.rising j i lj c ir))
          | no c ↦ omega arith
        ]
      ]

  single' : (j e f : ℕ) → Ports OneBend g → Mid j e → Mid j f → g'.v e ≡ g'.v f → e ≡ f
  single' j e f b (had el ek eu ev) (had fl fk fu fv) q = b.single j e f el fl ek fk (omega arith)
  single' j e f b (had el ek eu ev) (got i li ir fn fj fu fv) q = absurd (omega (arith, n.ends e el))
  single' j e f b (got i li ir en ej eu ev) (had fl fk fu fv) q = absurd (omega (arith, n.ends f fl))
  single' j e f b (got i li ir en ej eu ev) (got i' li' ir' fn fj fu fv) q = omega (arith, port-eq i i' li ir li' ir' (omega arith))

  go_right : {p q : ℕ} → p < g.k → q < g.k → g.col p ≤ g.col q → Beyond OneBend rt g p q × Beyond OneBend lf g q p → Beyond OneBend rt g' p q × Beyond OneBend lf g' q p
  go_right pk qk c b = (keep_beyond h a rt pk qk (omega arith) b.0, keep_beyond h a lf qk pk (omega arith) b.1)

  row' : (i j e f : ℕ) → Ports OneBend g → Mid i e → Mid j f → g'.v e ≡ g'.v f → i < j → Beyond OneBend rt g' (g'.u e) (g'.u f) × Beyond OneBend lf g' (g'.u f) (g'.u e)
  row' i j e f b (had el ek eu ev) (had fl fk fu fv) q lt =
      let z : g.v e ≡ g.v f = omega arith in
      let ce = same_col (g.kind e) ek (n.fits e el) in
      let cf = same_col (g.kind f) fk (n.fits f fl) in
      rw (eu, fu) (go_right (n.ends e el).0 (n.ends f fl).0 (omega (arith, ap g.col z)) (b.row i j e f el fl ek fk z lt))
  row' i j e f b (had el ek eu ev) (got c lc cr fn fj fu fv) q lt = absurd (omega (arith, n.ends e el))
  row' i j e f b (got c lc cr en ej eu ev) (had fl fk fu fv) q lt = absurd (omega (arith, n.ends f fl))
  row' i j e f b (got c lc cr en ej eu ev) (got c' lc' cr' fn fj fu fv) q lt =
      let cm : c < g.m = omega (arith, a.rm) in
      let cm' : c' < g.m = omega (arith, a.rm) in
      let cc' = port-lt c c' lc cr lc' cr' (omega arith) in
      let oc = h.on c cm in
      let oc' = h.on c' cm' in
      rw (eu, fu) (go_right oc.0 oc'.0 (omega arith) (chain h c c' cc' cm'))

  pub ports' : Ports OneBend g → Ports OneBend g'
  ports' b =
      record {
        used =
            λ s p j pk z.
            by_point h a (λ p. j ≤ g'.d s p → (e : ℕ) × (e < g'.L) × (g'.kind e ≡ side s j) × (g'.u e ≡ p))
            (λ p pk c. used' s p j b pk z c)
            (λ c. absurd (omega (arith, a.d_new s)))
            p pk;
        once = λ s j e f el fl ek fk. once' s j e f b (sided s j e (a.line e el) ek) (sided s j f (a.line f fl) fk);
        stack = λ s i j e f el fl ek fk. stack' s i j e f b (sided s i e (a.line e el) ek) (sided s j f (a.line f fl) fk);
        single = λ j e f el fl ek fk. single' j e f b (mid j e (a.line e el) ek) (mid j f (a.line f fl) fk);
        row = λ i j e f el fl ek fk. row' i j e f b (mid i e (a.line e el) ek) (mid j f (a.line f fl) fk);
      }
