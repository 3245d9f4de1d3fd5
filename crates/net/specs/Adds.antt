-- A new net g' has one point more than g, over the run l .. r of g's boundary: what is asked of it.
-- Every read of g' goes through a view, in equations between numbers. Nothing is said of the amounts by which columns move.
use Rattle.std.specs.Prelude.{ℕ, suc, ◌+◌, ◌*◌, ◌-◌, ◌<◌, ◌≤◌, min, ◌≡◌, ◌≢◌}
use Rattle.rules.specs.declared.Style.{Style}
use Rattle.rules.specs.declared.Style.TheVariants.{OneBend}
use Rattle.rules.specs.Styles.{taken}
use Rattle.net.specs.Side.{Side, Past, at}
use Rattle.net.specs.Net.{Net, side_kind, middle_kind, Beyond, Next}
use Rattle.net.specs.Inv.{Reach}

-- what the column c becomes: c up to l, l + 1 inside the run, c + l + 2 - r from r on
abbrev pub join : ℕ → ℕ → ℕ → ℕ
join l r c = min c (suc l) + (suc c - r)

-- the boundary point i of g' is the boundary point j of g, or the new point
pub data On (g g' : Net) (l r i : ℕ) : Type 0 where
  kept : (j : ℕ) → j < g.m → i ≢ suc l → i ≡ join l r j → g'.w i ≡ g.w j → On g g' l r i
  fresh : i ≡ suc l → g'.w i ≡ g.k → On g g' l r i

-- the line e of g' is a line of g, or a new one to an end of the run, or to a point inside the run
pub data Line (τ : Style) (g g' : Net) (l r : ℕ) (port : ℕ → ℕ) (e : ℕ) : Type 0 where
  old : e < g.L → g'.u e ≡ g.u e → g'.v e ≡ g.v e → g'.kind e ≡ g.kind e → Line τ g g' l r port e
  tip : (s : Side) → e + l ≡ g.L + at s l r → g'.u e ≡ g.w (at s l r) → g'.v e ≡ g.k →
      g'.kind e ≡ side_kind τ s (taken τ (g.d s (g.w (at s l r)))) → Line τ g g' l r port e
  rib : (i : ℕ) → l < i → i < r → e + l ≡ g.L + i → g'.u e ≡ g.w i → g'.v e ≡ g.k → g'.kind e ≡ middle_kind τ (port i) → Line τ g g' l r port e

-- where the new point lies: F1 and F2 by sides, and F3 for the ends of the run (inside the run it follows)
pub record Places (τ : Style) (g g' : Net) (l r : ℕ) : Type 0 where
  pub near : (s : Side) → Beyond τ s g' (g.w (at s l r)) g.k
  pub far : (s : Side) (i : ℕ) → i < g.m → Past s (at s l r) i → Beyond τ s g' g.k (g.w i)
  pub over : (s : Side) → g.y (g.w (at s l r)) < g'.y g.k

pub record Adds (τ : Style) (g g' : Net) (l r : ℕ) : Type 0 where
  pub lr : l < r
  pub rm : r < g.m
  pub k' : g'.k ≡ suc g.k
  pub m' : g'.m + r ≡ g.m + l + 2
  pub L' : g'.L + l ≡ g.L + r + 1
  pub σ : ℕ → ℕ
  pub mono : (c d : ℕ) → c ≤ d → σ c ≤ σ d
  pub x' : (p : ℕ) → p < g.k → g'.x p ≡ g.x p + σ (g.col p)
  pub y' : (p : ℕ) → p < g.k → g'.y p ≡ g.y p
  pub places : Places τ g g' l r
  pub col' : (p : ℕ) → p < g.k → g'.col p ≡ join l r (g.col p)
  pub col_new : g'.col g.k ≡ suc l
  pub onto : (i : ℕ) → i < g'.m → On g g' l r i
  pub port : ℕ → ℕ
  pub rising : (i j : ℕ) → l < i → i < j → j < r → port i < port j
  pub line : (e : ℕ) → e < g'.L → Line τ g g' l r port e
  pub d_tip : (s : Side) → g'.d s (g.w (at s l r)) ≡ taken τ (g.d s (g.w (at s l r)))
  pub d_old : (s : Side) (p : ℕ) → p < g.k → p ≢ g.w (at s l r) → g'.d s p ≡ g.d s p
  pub d_new : (s : Side) → g'.d s g.k ≡ 0

-- what bends ask besides: a move over an end of the run is a real one, and each port inside the row reaches its point
pub record Bends (g g' : Net) (l r : ℕ) (a : Adds OneBend g g' l r) : Type 0 where
  pub spread : (s : Side) (c : ℕ) → Past s (at s l r) c → Past s (a.σ (at s l r)) (a.σ c)
  pub h' : (p : ℕ) → p < g.k → g'.h p ≡ g.h p
  pub h_new : 2 * g'.h g.k ≤ r - l + 1
  pub reaches : (i : ℕ) → l < i → i < r → Reach g' (g.w i) g.k (a.port i)

-- what 5 and 9 ask besides: both ends of the boundary move as one piece, the left one not at all, and the new point is one step from each end of the run
pub record Rigid (τ : Style) (g g' : Net) (l r : ℕ) (a : Adds τ g g' l r) : Type 0 where
  pub T : ℕ
  pub still : (c : ℕ) → c ≤ l → a.σ c ≡ 0
  pub rigid : (c : ℕ) → r ≤ c → a.σ c ≡ T
  pub step : (s : Side) → Next τ s g' (g.w (at s l r)) g.k

-- in the one-bend drawing the right one moves by at most 5
pub record Exact (g g' : Net) (l r : ℕ) (a : Adds OneBend g g' l r) : Type 0 where
  pub rig : Rigid OneBend g g' l r a
  pub most : rig.T ≤ 5

-- the new point owns the points inside the run, and every other owner stays
pub record Owning (g g' : Net) (l r : ℕ) : Type 0 where
  pub own_old : (p : ℕ) → p < g.k → p ≢ g.w (g.col p) → g'.own p ≡ g.own p
  pub own_new : (c : ℕ) → l < c → c < r → g'.own (g.w c) ≡ g.k
