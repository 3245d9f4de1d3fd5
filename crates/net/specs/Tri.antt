-- 6 outlives the step.
use Rattle.std.specs.Prelude.{ℕ, ◌<◌, ◌≤◌, ◌≡◌, refl, ◌≢◌}
use Rattle.std.proofs.Common.{sym, ap, arith}
use Rattle.std.proofs.Math.Decide.{dec_le, dec_lt, ℕ_discrete}
use Rattle.rules.specs.declared.Style.{Style}
use Rattle.net.specs.Side.{Side, rt, lf, op, Cols, Past, at, at_in, cols-eq, cols-op, past_not, cols-past, Which, same, other, which}
use Rattle.net.specs.Net.{Net, Beyond, beyond_trans, beyond_not, Clear, beside, above, clear-swap}
use Rattle.net.specs.Inv.{Points, Aside, Leans, aside, upright, Lines}
use Rattle.net.specs.Adds.{Line, old, tip, rib, Adds}
use Rattle.net.specs.Walls.{keep_beyond, beyond_new, under_new, wall, past_new, upto_new, by_point, tip_m, tip_in, tip-col}
use Rattle.net.specs.BendKinds.{leans, keep-cols, fits', ends'}

-- p and q are the ends of a line, in one order or the other: what 3 and 6 say of them
record Ends (τ : Style) (g : Net) (p q : ℕ) : Type 0 where
  p_in : p < g.k
  q_in : q < g.k
  slant : (s : Side) → Past s (g.col p) (g.col q) → Beyond τ s g p q
  back : (s : Side) → Past s (g.col q) (g.col p) → Beyond τ s g q p
  clear : (z : ℕ) → z < g.k → z ≢ p → z ≢ q → Clear τ g p q z

swap : {τ : Style} {g : Net} {p q : ℕ} → Ends τ g p q → Ends τ g q p
swap n = record { p_in = n.q_in; q_in = n.p_in; slant = n.back; back = n.slant; clear = λ z zk b c. clear-swap (n.clear z zk c b) }

aside-slant : (t s : Side) {τ : Style} {g : Net} {p q : ℕ} → Aside τ t g p q → Past s (g.col p) (g.col q) → Beyond τ s g p q
aside-slant rt rt f c = f.away
aside-slant rt lf f c = absurd (omega (arith, f.cols))
aside-slant lf rt f c = absurd (omega (arith, f.cols))
aside-slant lf lf f c = f.away

aside_back : (t s : Side) {τ : Style} {g : Net} {p q : ℕ} → Aside τ t g p q → Past s (g.col q) (g.col p) → Beyond τ s g q p
aside_back rt rt f c = absurd (omega (arith, f.cols))
aside_back rt lf f c = f.back
aside_back lf rt f c = f.back
aside_back lf lf f c = absurd (omega (arith, f.cols))

leans-slant : {τ : Style} {g : Net} {p q : ℕ} → Leans τ g p q → (s : Side) → Past s (g.col p) (g.col q) → Beyond τ s g p q
leans-slant (aside t f) s k = aside-slant t s f k
leans-slant (upright e b) s k = absurd (past_not s k (cols-eq s (sym e)))

leans_back : {τ : Style} {g : Net} {p q : ℕ} → Leans τ g p q → (s : Side) → Past s (g.col q) (g.col p) → Beyond τ s g q p
leans_back (aside t f) s k = aside_back t s f k
leans_back (upright e b) s k = absurd (past_not s k (cols-eq s e))

ends_of : {τ : Style} {g : Net} → Lines τ g → (e : ℕ) → e < g.L → Ends τ g (g.u e) (g.v e)
ends_of {τ} {g} n e el =
    let f = leans τ (g.kind e) (n.fits e el) in
    record {
      p_in = (n.ends e el).0;
      q_in = (n.ends e el).1;
      slant = leans-slant f;
      back = leans_back f;
      clear = λ z. n.tri e z el;
    }

module _ {τ : Style} {g g' : Net} {l r : ℕ} (h : Points τ g) (a : Adds τ g g' l r) where
  -- an old line and an old point
  keep-clear : {p q z : ℕ} → p < g.k → q < g.k → z < g.k → Clear τ g p q z → Clear τ g' p q z
  keep-clear pk qk zk (beside s c c' b b') =
      beside s (keep-cols h a s pk zk c) (keep-cols h a s qk zk c') (keep_beyond h a s pk zk c b) (keep_beyond h a s qk zk c' b')
  keep-clear {p} {q} {z} pk qk zk (above b b') =
      above (omega (arith, a.y' p pk, a.y' z zk)) (omega (arith, a.y' q qk, a.y' z zk))

  -- a new line and an old point, by the side on which the point lies
  new_old : (s : Side) (i p : ℕ) → i < g.m → p < g.k → p ≢ g.w i → Cols s i (g.col p) → Past s (at s l r) (g.col p) → Clear τ g' (g.w i) g.k p
  new_old s i p im pk n c b =
      let o = h.on i im in
      beside s (keep-cols h a s o.0 pk (rw o.1 c)) (rw (a.col_new, a.col' p pk) (past_new s a.lr b)) (wall h a s i p im pk n c) (beyond_new h a s p pk b)

  new_line : (i p : ℕ) → l ≤ i → i ≤ r → p < g.k → p ≢ g.w i → Clear τ g' (g.w i) g.k p
  new_line i p li ir pk n =
      elim (dec_lt (g.col p) i) [
        | yes c ↦ new_old lf i p im pk n (omega arith) (omega arith)
        | no c ↦ elim (dec_lt l (g.col p)) [
          | yes b ↦ new_old rt i p im pk n (omega arith) (omega arith)
          | no b ↦ new_old lf i p im pk n (omega arith) (omega (arith, a.lr))
        ]
      ]
    where
      im : i < g.m
      im = omega (arith, a.rm)

  -- the new point and an old line: above it
  lower : {p q : ℕ} → p < g.k → q < g.k → g.y p < g'.y g.k → g.y q < g'.y g.k → Clear τ g' p q g.k
  lower {p} {q} pk qk b b' = above (omega (arith, a.y' p pk)) (omega (arith, a.y' q qk))

  -- .. inside the run's columns
  inside : {p q : ℕ} → p < g.k → q < g.k → l ≤ g.col p → g.col p ≤ r → l ≤ g.col q → g.col q ≤ r → Clear τ g' p q g.k
  inside pk qk b b' c c' = lower pk qk (under_new h a _ pk b b') (under_new h a _ qk c c')

  -- .. on both sides of an end of the run, which is above the line
  astride : (s : Side) {p q : ℕ} → Ends τ g p q → g.col p < at s l r → at s l r < g.col q → Clear τ g' p q g.k
  astride s {p} {q} n b c =
      go (n.clear (g.w (at s l r)) (tip_in h a s) (λ e. omega (arith, ap g.col e, tip-col h a s)) (λ e. omega (arith, ap g.col e, tip-col h a s)))
    where
      go : Clear τ g p q (g.w (at s l r)) → Clear τ g' p q g.k
      go (beside rt d d' f f') = absurd (omega (arith, tip-col h a s))
      go (beside lf d d' f f') = absurd (omega (arith, tip-col h a s))
      go (above f f') = let o = a.places.over s in lower n.p_in n.q_in (omega arith) (omega arith)

  -- .. wholly up to an end of the run
  beside_new : (s : Side) {p q : ℕ} → p < g.k → q < g.k → Cols s (g.col p) (at s l r) → Cols s (g.col q) (at s l r) →
      Beyond τ s g' p g.k → Beyond τ s g' q g.k → Clear τ g' p q g.k
  beside_new s {p} {q} pk qk c c' =
      beside s (rw (a.col' p pk, a.col_new) (upto_new s a.lr c)) (rw (a.col' q qk, a.col_new) (upto_new s a.lr c'))

  via_tip : (s : Side) {p : ℕ} → p < g.k → Cols s (g.col p) (at s l r) → Beyond τ s g p (g.w (at s l r)) → Beyond τ s g' p g.k
  via_tip s pk c b = beyond_trans s (keep_beyond h a s pk (tip_in h a s) (rw (tip-col h a s) c) b) (a.places.near s)

  -- the end of the run is an end of the line
  outer-end : (s : Side) {p q : ℕ} → Ends τ g p q → Cols s (g.col p) (at s l r) → g.w (at s l r) ≡ q → Clear τ g' p q g.k
  outer-end s {p} {q} n c e =
      let cq : g.col q ≡ at s l r = rw e at (tip-col h a s) in
      let o = at_in s a.lr in
      elim (ℕ_discrete (g.col p) (at s l r)) [
        | yes i ↦ inside n.p_in n.q_in (omega arith) (omega arith) (omega arith) (omega arith)
        | no i ↦
            beside_new s n.p_in n.q_in c (cols-eq s cq)
            (via_tip s n.p_in c (rw e (n.slant s (rw cq (cols-past s c i)))))
            (rw e at (a.places.near s))
      ]

  outer : (s : Side) {p q : ℕ} → Ends τ g p q → Cols s (g.col p) (at s l r) → Cols s (g.col q) (at s l r) → Clear τ g' p q g.k
  outer s {p} {q} n c c' =
      elim (ℕ_discrete (g.w (at s l r)) q) [
        | yes e ↦ outer-end s n c e
        | no i ↦ elim (ℕ_discrete (g.w (at s l r)) p) [
          | yes e ↦ clear-swap (outer-end s (swap n) c' e)
          | no j ↦ go j (n.clear (g.w (at s l r)) (tip_in h a s) j i)
        ]
      ]
    where
      by_side : g.w (at s l r) ≢ p → (t : Side) → Which s t → Beyond τ t g p (g.w (at s l r)) → Beyond τ t g q (g.w (at s l r)) → Clear τ g' p q g.k
      by_side j t same b b' = beside_new s n.p_in n.q_in c c' (via_tip s n.p_in c b) (via_tip s n.q_in c' b')
      by_side j t other b b' =
          absurd (beyond_not (op s) b (h.walls (op s) (at s l r) p (tip_m h a s) n.p_in (λ e. j (sym e)) (cols-op s c)))

      go : g.w (at s l r) ≢ p → Clear τ g p q (g.w (at s l r)) → Clear τ g' p q g.k
      go j (beside t d d' b b') = by_side j t (which s t) b b'
      go j (above b b') = let o = a.places.over s in lower n.p_in n.q_in (omega arith) (omega arith)

  -- all cases
  ordered : {p q : ℕ} → Ends τ g p q → g.col p ≤ g.col q → Clear τ g' p q g.k
  ordered {p} {q} n c =
      elim (dec_le (g.col q) l) [
        | yes b ↦ outer rt n (omega arith) (omega arith)
        | no b ↦ elim (dec_le r (g.col p)) [
          | yes b' ↦ outer lf n (omega arith) (omega arith)
          | no b' ↦ elim (dec_lt (g.col p) l) [
            | yes d ↦ astride rt n d (omega arith)
            | no d ↦ elim (dec_lt r (g.col q)) [
              | yes d' ↦ astride lf n (omega arith) d'
              | no d' ↦ inside n.p_in n.q_in (omega arith) (omega arith) (omega arith) (omega arith)
            ]
          ]
        ]
      ]

  new_point : {p q : ℕ} → Ends τ g p q → Clear τ g' p q g.k
  new_point {p} {q} n =
      elim (dec_le (g.col p) (g.col q)) [
        | yes c ↦ ordered n c
        | no c ↦ clear-swap (ordered (swap n) (omega arith))
      ]

  tri' : (e p : ℕ) → Lines τ g → Line τ g g' l r a.port e → p < g'.k → p ≢ g'.u e → p ≢ g'.v e → Clear τ g' (g'.u e) (g'.v e) p
  tri' e p n (old el eu ev ek) =
      let f = ends_of n e el in
      rw (eu, ev)
      (by_point h a (λ p. p ≢ g.u e → p ≢ g.v e → Clear τ g' (g.u e) (g.v e) p)
      (λ p pk b c. keep-clear f.p_in f.q_in pk (f.clear p pk b c))
      (λ b c. new_point f)
      p)
  tri' e p n (tip s i eu ev ek) =
      let o = at_in s a.lr in
      rw (eu, ev)
      (by_point h a (λ p. p ≢ g.w (at s l r) → p ≢ g.k → Clear τ g' (g.w (at s l r)) g.k p)
      (λ p pk b c. new_line (at s l r) p o.0 o.1 pk b)
      (λ b c. absurd (c refl))
      p)
  tri' e p n (rib i li ir en eu ev ek) =
      rw (eu, ev)
      (by_point h a (λ p. p ≢ g.w i → p ≢ g.k → Clear τ g' (g.w i) g.k p)
      (λ p pk b c. new_line i p (omega arith) (omega arith) pk b)
      (λ b c. absurd (c refl))
      p)

  pub lines' : Lines τ g → Lines τ g'
  lines' n =
      record {
        ends = λ e el. ends' h a e n (a.line e el);
        fits = λ e el. fits' τ h a e n (a.line e el);
        tri = λ e p el. tri' e p n (a.line e el);
      }
