-- 1 and 2 outlive the step.
use Rattle.std.specs.Prelude.{ℕ, suc, ◌+◌, ◌<◌, ◌≤◌, ◌≡◌, refl, ◌≢◌}
use Rattle.std.proofs.Common.{sym, ap, ◌∙◌, arith}
use Rattle.std.proofs.Math.Decide.{dec_lt, ℕ_discrete}
use Rattle.rules.specs.declared.Style.{Style}
use Rattle.net.specs.Side.{Side, rt, lf, Cols, Past, at, cols-self}
use Rattle.net.specs.Net.{Net, Beyond, beyond_trans, beyond_low, beyond_moved, beyond_a}
use Rattle.net.specs.Inv.{Points}
use Rattle.net.specs.Adds.{join, On, kept, fresh, Adds}

-- the plan's words for 1 and 2
pub chain : {τ : Style} {g : Net} → Points τ g → (i j : ℕ) → i < j → j < g.m → Beyond τ rt g (g.w i) (g.w j) × Beyond τ lf g (g.w j) (g.w i)
chain {g} h i j lt jm =
    let oi = h.on i (omega arith) in
    let oj = h.on j jm in
    let n : g.w j ≢ g.w i = λ e. omega (arith, ap g.col e) in
    (h.walls rt i (g.w j) (omega arith) oj.0 n (omega arith), h.walls lf j (g.w i) jm oi.0 (λ e. n (sym e)) (omega arith))

pub cone : {τ : Style} {g : Net} → Points τ g → (p : ℕ) → p < g.k → p ≢ g.w (g.col p) → (s : Side) → Beyond τ s g (g.w (g.col p)) p
cone {g} h p pk n rt = h.walls rt (g.col p) p (h.cols p pk) pk n (omega arith)
cone {g} h p pk n lf = h.walls lf (g.col p) p (h.cols p pk) pk n (omega arith)

-- ---- columns

pub join-cols : (s : Side) {l r c d : ℕ} → l < r → Cols s c d → Cols s (join l r c) (join l r d)
join-cols rt lr h = omega arith
join-cols lf lr h = omega arith

-- a column against that of a boundary point that stays
unjoin : (s : Side) (l r c d : ℕ) → l < r → join l r c ≢ suc l → Cols s (join l r c) (join l r d) → Cols s c d
unjoin rt l r c d lr n h = omega arith
unjoin lf l r c d lr n h = omega arith

-- a column against that of the new point
pub past_new : (s : Side) {l r c : ℕ} → l < r → Past s (at s l r) c → Cols s (suc l) (join l r c)
past_new rt lr h = omega arith
past_new lf lr h = omega arith

new_past : (s : Side) (l r c : ℕ) → l < r → Cols s (suc l) (join l r c) → Past s (at s l r) c
new_past rt l r c lr h = omega arith
new_past lf l r c lr h = omega arith

pub upto_new : (s : Side) {l r c : ℕ} → l < r → Cols s c (at s l r) → Cols s (join l r c) (suc l)
upto_new rt lr h = omega arith
upto_new lf lr h = omega arith

new_upto : (s : Side) (l r c : ℕ) → l < r → join l r c ≢ suc l → Cols s (join l r c) (suc l) → Cols s c (at s l r)
new_upto rt l r c lr n h = omega arith
new_upto lf l r c lr n h = omega arith

module _ {τ : Style} {g g' : Net} {l r : ℕ} (h : Points τ g) (a : Adds τ g g' l r) where
  -- a column on side s moves at least as far to that side
  pub keep_beyond : (s : Side) {p q : ℕ} → p < g.k → q < g.k → Cols s (g.col p) (g.col q) → Beyond τ s g p q → Beyond τ s g' p q
  keep_beyond s {p} {q} pk qk c = beyond_moved s _ _ (a.x' p pk) (a.x' q qk) (a.y' p pk) (a.y' q qk) (further s c)
    where
      further : (s : Side) {c d : ℕ} → Cols s c d → Cols s (a.σ c) (a.σ d)
      further rt {c} {d} b = omega (arith, a.mono c d (omega arith))
      further lf {c} {d} b = omega (arith, a.mono d c (omega arith))

  -- the ends of the run
  pub tip_m : (s : Side) → at s l r < g.m
  tip_m rt = omega (arith, a.lr, a.rm)
  tip_m lf = a.rm

  pub tip_in : (s : Side) → g.w (at s l r) < g.k
  tip_in s = (h.on (at s l r) (tip_m s)).0

  pub tip-col : (s : Side) → g.col (g.w (at s l r)) ≡ at s l r
  tip-col s = (h.on (at s l r) (tip_m s)).1

  -- the walls of g stand in g'
  pub wall : (s : Side) (i p : ℕ) → i < g.m → p < g.k → p ≢ g.w i → Cols s i (g.col p) → Beyond τ s g' (g.w i) p
  wall s i p im pk n c = keep_beyond s (h.on i im).0 pk (rw (h.on i im).1 c) (h.walls s i p im pk n c)

  -- F1 and F2 for every point, F3 for every point of the run's columns
  pub beyond_new : (s : Side) (p : ℕ) → p < g.k → Past s (at s l r) (g.col p) → Beyond τ s g' g.k p
  beyond_new s p pk c =
      elim (ℕ_discrete p (g.w (g.col p))) [
        | yes e ↦ rw e (a.places.far s (g.col p) (h.cols p pk) c)
        | no n ↦ beyond_trans s (a.places.far s (g.col p) (h.cols p pk) c) (wall s (g.col p) p (h.cols p pk) pk n (cols-self s))
      ]

  tip_under : (s : Side) (p : ℕ) → p < g.k → g.col p ≡ at s l r → g.y p < g'.y g.k
  tip_under s p pk c =
      let o = a.places.over s in
      elim (ℕ_discrete p (g.w (g.col p))) [
        | yes e ↦ omega (arith, ap g.y e, ap (λ i. g.y (g.w i)) c)
        | no n ↦ omega (arith, beyond_low rt (cone h p pk n rt) (cone h p pk n lf), ap (λ i. g.y (g.w i)) c)
      ]

  pub under_new : (p : ℕ) → p < g.k → l ≤ g.col p → g.col p ≤ r → g.y p < g'.y g.k
  under_new p pk c c' =
      elim (ℕ_discrete (g.col p) l) [
        | yes e ↦ tip_under rt p pk e
        | no n ↦ elim (ℕ_discrete (g.col p) r) [
          | yes e ↦ tip_under lf p pk e
          | no n' ↦ omega (arith, beyond_low rt (beyond_new rt p pk (omega arith)) (beyond_new lf p pk (omega arith)), a.y' p pk)
        ]
      ]

  -- a boundary point up to the end of the run, against the new point
  new_beyond : (s : Side) (j : ℕ) → j < g.m → Cols s j (at s l r) → Beyond τ s g' (g.w j) g.k
  new_beyond s j jm c =
      elim (ℕ_discrete j (at s l r)) [
        | yes e ↦ rw e (a.places.near s)
        | no n ↦
            beyond_trans s
            (wall s j (g.w (at s l r)) jm (tip_in s) (λ e. n (omega (arith, ap g.col e, tip-col s, (h.on j jm).1))) (rw (tip-col s) c))
            (a.places.near s)
      ]

  -- a point of g' is a point of g, or the new one
  pub by_point : (P : ℕ → Type 0) → ((p : ℕ) → p < g.k → P p) → P g.k → (p : ℕ) → p < g'.k → P p
  by_point P f b p pk =
      elim (dec_lt p g.k) [
        | yes q ↦ f p q
        | no n ↦ let e : p ≡ g.k = omega (arith, a.k') in rw e b
      ]

  on' : (i : ℕ) → On g g' l r i → (g'.w i < g'.k) × (g'.col (g'.w i) ≡ i)
  on' i (kept j jm n e f) = let o = h.on j jm in (omega (arith, a.k'), rw (f, a.col' (g.w j) o.0, o.1) (sym e))
  on' i (fresh e f) = (omega (arith, a.k'), rw (f, a.col_new) (sym e))

  walls' : (s : Side) (i p : ℕ) → On g g' l r i → p < g'.k → p ≢ g'.w i → Cols s i (g'.col p) → Beyond τ s g' (g'.w i) p
  walls' s i p (kept j jm n e f) =
      rw f
      (by_point (λ p. p ≢ g.w j → Cols s i (g'.col p) → Beyond τ s g' (g.w j) p)
      (λ p pk d c. wall s j p jm pk d (unjoin s l r j (g.col p) a.lr (rw e at n) (rw (e, a.col' p pk) at c)))
      (λ d c. new_beyond s j jm (new_upto s l r j a.lr (rw e at n) (rw (e, a.col_new) at c)))
      p)
  walls' s i p (fresh e f) =
      rw f
      (by_point (λ p. p ≢ g.k → Cols s i (g'.col p) → Beyond τ s g' g.k p)
      (λ p pk d c. beyond_new s p pk (new_past s l r (g.col p) a.lr (rw (e, a.col' p pk) at c)))
      (λ d c. absurd (d refl))
      p)

  pub points' : Points τ g'
  points' =
      record {
        on = λ i im. on' i (a.onto i im);
        cols =
            by_point (λ p. g'.col p < g'.m) (λ p pk. omega (arith, a.col' p pk, h.cols p pk, a.m', a.lr, a.rm)) (omega (arith, a.col_new, a.m', a.lr, a.rm));
        frame =
            by_point (λ p. g'.y p ≤ g'.x p) (λ p pk. omega (arith, a.x' p pk, a.y' p pk, h.frame p pk))
            (omega (arith, beyond_a (a.places.near rt), a.x' (g.w l) (tip_in rt), a.y' (g.w l) (tip_in rt), h.frame (g.w l) (tip_in rt)));
        walls = λ s i p im. walls' s i p (a.onto i im);
      }

  -- the boundary of g'
  pub w_low : (i : ℕ) → i ≤ l → g'.w i ≡ g.w i
  w_low i il = go (a.onto i (omega (arith, a.m', a.lr, a.rm)))
    where
      go : On g g' l r i → g'.w i ≡ g.w i
      go (kept j jm d e f) = let q : j ≡ i = omega (arith, a.lr) in f ∙ ap g.w q
      go (fresh e f) = absurd (omega arith)

  pub w_new : g'.w (suc l) ≡ g.k
  w_new = go (a.onto (suc l) (omega (arith, a.m', a.lr, a.rm)))
    where
      go : On g g' l r (suc l) → g'.w (suc l) ≡ g.k
      go (kept j jm d e f) = absurd (d refl)
      go (fresh e f) = f

  pub w_high : (i j : ℕ) → r ≤ j → j < g.m → i + r ≡ j + l + 2 → g'.w i ≡ g.w j
  w_high i j rj jm q = go (a.onto i (omega (arith, a.m', a.lr, a.rm)))
    where
      go : On g g' l r i → g'.w i ≡ g.w j
      go (kept c cm d e f) = let z : c ≡ j = omega (arith, a.lr) in f ∙ ap g.w z
      go (fresh e f) = absurd (omega (arith, a.lr))
