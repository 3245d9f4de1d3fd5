-- The invariant, in four parts. The numbers of the facts are the plan's.
use Rattle.std.specs.Prelude.{ℕ, suc, ◌+◌, ◌*◌, ◌<◌, ◌≤◌, ◌≡◌, ◌≢◌}
use Rattle.rules.specs.declared.Style.{Style}
use Rattle.rules.specs.declared.Style.TheVariants.{OneBend, Straight}
use Rattle.net.specs.Side.{Side, rt, lf, op, Cols, at}
use Rattle.net.specs.Net.{Net, BendKind, side, middle, flat, side_kind, Beyond, Clear, Next}

-- 1 and 2 in one: of a boundary point w i, every other point of its column or of a column on side s lies further to side s
pub record Points (τ : Style) (g : Net) : Type 0 where
  pub on : (i : ℕ) → i < g.m → (g.w i < g.k) × (g.col (g.w i) ≡ i)
  pub cols : (p : ℕ) → p < g.k → g.col p < g.m
  pub frame : (p : ℕ) → p < g.k → g.y p ≤ g.x p
  pub walls : (s : Side) (i p : ℕ) → i < g.m → p < g.k → p ≢ g.w i → Cols s i (g.col p) → Beyond τ s g (g.w i) p

-- 3. What the kind of a line tells of its ends, where lines bend
pub record Aside (τ : Style) (s : Side) (g : Net) (p q : ℕ) : Type 0 where
  pub cols : Cols s (g.col p) (g.col q)
  pub away : Beyond τ s g p q
  pub back : Beyond τ (op s) g q p

pub data Bent (g : Net) (p q : ℕ) : BendKind → Type 0 where
  port : {s : Side} {j : ℕ} → Aside OneBend s g p q → 0 < j → j ≤ g.d s p → Bent g p q (side s j)
  within : {i : ℕ} → g.col p ≡ g.col q → Beyond OneBend rt g q p → Beyond OneBend lf g q p → Bent g p q (middle i)
  plain : Aside OneBend rt g p q → g.y p ≡ g.y q → Bent g p q flat

-- what both drawings know of them: the later end is aside of the earlier one, or in its column and further left
pub data Leans (τ : Style) (g : Net) (p q : ℕ) : Type 0 where
  aside : (s : Side) → Aside τ s g p q → Leans τ g p q
  upright : g.col p ≡ g.col q → Beyond τ rt g q p → Leans τ g p q

-- 3 for both drawings: a straight line has no port
abbrev pub Fits : Style → Net → ℕ → ℕ → BendKind → Type 0
Fits OneBend g p q κ = Bent g p q κ
Fits Straight g p q κ = (κ ≡ flat) × Leans Straight g p q

-- 6. Every other point is clear of a line.
pub record Lines (τ : Style) (g : Net) : Type 0 where
  pub ends : (e : ℕ) → e < g.L → (g.u e < g.k) × (g.v e < g.k)
  pub fits : (e : ℕ) → e < g.L → Fits τ g (g.u e) (g.v e) (g.kind e)
  pub tri : (e p : ℕ) → e < g.L → p < g.k → p ≢ g.u e → p ≢ g.v e → Clear τ g (g.u e) (g.v e) p

-- 7. Ports of p on side s: 1 .. d s p, each with one line, and the later ends rise. The middle ports of a point: each with one line, and the earlier ends go right.
pub record Ports (τ : Style) (g : Net) : Type 0 where
  pub used : (s : Side) (p j : ℕ) → p < g.k → 0 < j → j ≤ g.d s p → (e : ℕ) × (e < g.L) × (g.kind e ≡ side s j) × (g.u e ≡ p)
  pub once : (s : Side) (j e f : ℕ) → e < g.L → f < g.L → g.kind e ≡ side s j → g.kind f ≡ side s j → g.u e ≡ g.u f → e ≡ f
  pub stack : (s : Side) (i j e f : ℕ) → e < g.L → f < g.L → g.kind e ≡ side s i → g.kind f ≡ side s j → g.u e ≡ g.u f → i < j →
      g.y (g.v e) < g.y (g.v f)
  pub single : (j e f : ℕ) → e < g.L → f < g.L → g.kind e ≡ middle j → g.kind f ≡ middle j → g.v e ≡ g.v f → e ≡ f
  pub row : (i j e f : ℕ) → e < g.L → f < g.L → g.kind e ≡ middle i → g.kind f ≡ middle j → g.v e ≡ g.v f → i < j →
      Beyond τ rt g (g.u e) (g.u f) × Beyond τ lf g (g.u f) (g.u e)

-- 4. From a side's port, d + 1 away and j up, the free piece rises at most as fast as it goes away; from a middle port, i - h aside and h down, it falls at least as fast as it goes aside.
abbrev Run : Side → ℕ → ℕ → ℕ → ℕ → ℕ → ℕ → Type 0
Run rt xu yu xv yv d j = yv + xu + d + 1 ≤ xv + yu + j
Run lf xu yu xv yv d j = yv + xv + d + 1 ≤ xu + yu + j

pub record Slope (s : Side) (g : Net) (p q j : ℕ) : Type 0 where
  pub rise : g.y p + j ≤ g.y q
  pub run : Run s (g.x p) (g.y p) (g.x q) (g.y q) (g.d s p) j

pub record Reach (g : Net) (p q i : ℕ) : Type 0 where
  pub first : 0 < i
  pub last : i < 2 * g.h q
  pub to_a : g.x q + i + g.y p ≤ g.x p + g.y q
  pub to_b : g.x p + g.y p + 2 * g.h q ≤ g.x q + g.y q + i

pub record Slopes (g : Net) : Type 0 where
  pub slope : (s : Side) (j e : ℕ) → e < g.L → g.kind e ≡ side s j → Slope s g (g.u e) (g.v e) j
  pub reach : (i e : ℕ) → e < g.L → g.kind e ≡ middle i → Reach g (g.u e) (g.v e) i

-- 8 in part. A point is the later end of at most one line of each side, and the earlier end of at most one middle line. Line 0 alone is flat, it joins points 0 and 1, and no other line has one of these as its later end.
pub record Frees (g : Net) : Type 0 where
  pub late : (s : Side) (i j e f : ℕ) → e < g.L → f < g.L → g.kind e ≡ side s i → g.kind f ≡ side s j → g.v e ≡ g.v f → e ≡ f
  pub cover : (i j e f : ℕ) → e < g.L → f < g.L → g.kind e ≡ middle i → g.kind f ≡ middle j → g.u e ≡ g.u f → e ≡ f
  pub some : 0 < g.L
  pub base : (e : ℕ) → e < g.L → g.kind e ≡ flat → e ≡ 0
  pub grounded : (g.u 0 ≡ 0) × (g.v 0 ≡ 1)
  pub first : (e : ℕ) → e < g.L → 0 < e → (g.v e ≢ g.u 0) × (g.v e ≢ g.v 0)

-- 5, 8 (the count) and 9
-- the line between boundary points i and i + 1: from the highest port on side s of one to the other, one step further
pub record Link (τ : Style) (g : Net) (i : ℕ) : Type 0 where
  pub s : Side
  pub e : ℕ
  pub el : e < g.L
  pub kind : g.kind e ≡ side_kind τ s (g.d s (g.w (at s i (suc i))))
  pub u : g.u e ≡ g.w (at s i (suc i))
  pub v : g.v e ≡ g.w (at (op s) i (suc i))
  pub next : Next τ s g (g.w (at s i (suc i))) (g.w (at (op s) i (suc i)))

pub record Corners (τ : Style) (g : Net) : Type 0 where
  pub size : 1 < g.m
  pub placed : 1 < g.k
  pub first : g.w 0 ≡ 0
  pub last : (i : ℕ) → suc i ≡ g.m → g.w i ≡ 1
  pub origin : (g.x 0 ≡ 0) × (g.y 0 ≡ 0) × (g.y 1 ≡ 0)
  pub rest : (p : ℕ) → 1 < p → p < g.k → 0 < g.y p
  pub count : g.L + g.m + 3 ≡ 3 * g.k
  pub links : (i : ℕ) → suc i < g.m → Link τ g i

-- Owners: a covered point's owner is later and in its column, so that to move a boundary point with all it owns is to move its column.
pub record Owners (g : Net) : Type 0 where
  pub owned : (p : ℕ) → p < g.k → p ≢ g.w (g.col p) → (p < g.own p) × (g.own p < g.k) × (g.col (g.own p) ≡ g.col p)

-- 8 in part: two different lines differ in at least one end.
pub record Alike (g : Net) : Type 0 where
  pub up : (e : ℕ) → e < g.L → g.u e < g.v e
  pub one : (e f : ℕ) → e < g.L → f < g.L → g.u e ≡ g.u f → g.v e ≡ g.v f → e ≡ f

-- what both drawings keep, the one-bend drawing strictly, the straight one with ties by height
pub record Core (τ : Style) (g : Net) : Type 0 where
  pub points : Points τ g
  pub lines : Lines τ g
  pub owners : Owners g
  pub corners : Corners τ g
  pub alike : Alike g

-- the one-bend drawing
pub record Inv (g : Net) : Type 0 where
  pub core : Core OneBend g
  pub ports : Ports OneBend g
  pub slopes : Slopes g
  pub frees : Frees g

pub record Border (g : Net) : Type 0 where
  pub width : g.x 1 + 9 ≤ 5 * g.k
  pub least : 6 ≤ g.x 1
