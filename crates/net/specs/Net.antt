-- A drawing by functions of the index: points 0 .. k - 1, boundary indices 0 .. m - 1, lines 0 .. L - 1.
-- A line e has the earlier end u e, the later end v e and a kind. d s p counts the ports of p on side s.
use Rattle.std.specs.Prelude.{ℕ, ◌+◌, ◌<◌, ◌≤◌, ◌≡◌}
use Rattle.std.proofs.Common.{arith}
use Rattle.rules.specs.declared.Style.{Style}
use Rattle.rules.specs.declared.Style.TheVariants.{OneBend, Straight}
use Rattle.rules.specs.Styles.{inset}
use Rattle.net.specs.Side.{Side, rt, lf, op, Gap, Cols}

-- the port: port j on side s of the earlier end; middle port i of the later end; none
pub data BendKind : Type 0 where
  side : Side → ℕ → BendKind
  middle : ℕ → BendKind
  flat : BendKind

-- the kind of a new line to an end of a run, at port j, and of one to a point inside it, at middle port i: a straight line has no port
abbrev pub side_kind : Style → Side → ℕ → BendKind
side_kind OneBend s j = side s j
side_kind Straight s j = flat

abbrev pub middle_kind : Style → ℕ → BendKind
middle_kind OneBend i = middle i
middle_kind Straight i = flat

pub record Net : Type 0 where
  pub k : ℕ
  pub m : ℕ
  pub L : ℕ
  pub x : ℕ → ℕ
  pub y : ℕ → ℕ
  pub col : ℕ → ℕ
  pub own : ℕ → ℕ
  pub w : ℕ → ℕ
  pub u : ℕ → ℕ
  pub v : ℕ → ℕ
  pub kind : ℕ → BendKind
  pub d : Side → ℕ → ℕ
  pub h : ℕ → ℕ

-- q is further to side s than p
pub record Beyond (τ : Style) (s : Side) (g : Net) (p q : ℕ) : Type 0 where
  pub gap : Gap τ s (g.x p) (g.y p) (g.x q) (g.y q)

-- q is `inset` further to side s than p: by x - y, or by x + y
abbrev Unit-gap : Style → Side → ℕ → ℕ → ℕ → ℕ → Type 0
Unit-gap τ rt xp yp xq yq = xp + inset τ + yq ≡ xq + yp
Unit-gap τ lf xp yp xq yq = xq + yq + inset τ ≡ xp + yp

pub record Next (τ : Style) (s : Side) (g : Net) (p q : ℕ) : Type 0 where
  pub one : Unit-gap τ s (g.x p) (g.y p) (g.x q) (g.y q)

-- All that the step uses of it: it is an order, two sides give the height, and moves to its side keep it.
pub beyond_trans : {τ : Style} (s : Side) {g : Net} {p q z : ℕ} → Beyond τ s g p q → Beyond τ s g q z → Beyond τ s g p z
beyond_trans {τ = OneBend} rt h k = omega arith
beyond_trans {τ = OneBend} lf h k = omega arith
beyond_trans {τ = Straight} rt h k = omega arith
beyond_trans {τ = Straight} lf h k = omega arith

pub beyond_not : {τ : Style} (s : Side) {g : Net} {p q : ℕ} → Beyond τ s g p q → Beyond τ s g q p → ⊥
beyond_not {τ = OneBend} rt h k = omega arith
beyond_not {τ = OneBend} lf h k = omega arith
beyond_not {τ = Straight} rt h k = omega arith
beyond_not {τ = Straight} lf h k = omega arith

-- and lies at another place
pub beyond_apart : {τ : Style} (s : Side) {g : Net} {p q : ℕ} → Beyond τ s g p q → g.x p ≡ g.x q → g.y p ≡ g.y q → ⊥
beyond_apart {τ = OneBend} rt h x y = omega arith
beyond_apart {τ = OneBend} lf h x y = omega arith
beyond_apart {τ = Straight} rt h x y = omega arith
beyond_apart {τ = Straight} lf h x y = omega arith

-- further to both sides is lower
pub beyond_low : {τ : Style} (s : Side) {g : Net} {p q : ℕ} → Beyond τ s g p q → Beyond τ (op s) g p q → g.y q < g.y p
beyond_low {τ = OneBend} rt h k = omega arith
beyond_low {τ = OneBend} lf h k = omega arith
beyond_low {τ = Straight} rt h k = omega arith
beyond_low {τ = Straight} lf h k = omega arith

-- p moved by i and q by j, at least as far to side s
pub beyond_moved : {τ : Style} (s : Side) {g g' : Net} {p q : ℕ} (i j : ℕ) → g'.x p ≡ g.x p + i → g'.x q ≡ g.x q + j → g'.y p ≡ g.y p → g'.y q ≡ g.y q →
    Cols s i j → Beyond τ s g p q → Beyond τ s g' p q
beyond_moved {τ = OneBend} rt i j xp xq yp yq c b = omega arith
beyond_moved {τ = OneBend} lf i j xp xq yp yq c b = omega arith
beyond_moved {τ = Straight} rt i j xp xq yp yq c b = omega arith
beyond_moved {τ = Straight} lf i j xp xq yp yq c b = omega arith

-- in numbers: it is at least `inset` further; one more than that is enough, and so is a higher point that far
pub beyond_a : {τ : Style} {g : Net} {p q : ℕ} → Beyond τ rt g p q → g.x p + inset τ + g.y q ≤ g.x q + g.y p
beyond_a {τ = OneBend} h = omega arith
beyond_a {τ = Straight} h = omega arith

pub beyond_b : {τ : Style} {g : Net} {p q : ℕ} → Beyond τ lf g p q → g.x q + g.y q + inset τ ≤ g.x p + g.y p
beyond_b {τ = OneBend} h = omega arith
beyond_b {τ = Straight} h = omega arith

pub beyond_tie : (τ : Style) (s : Side) {g : Net} {p q : ℕ} → Beyond OneBend s g p q → Beyond τ s g p q
beyond_tie OneBend s h = h
beyond_tie Straight rt h = omega arith
beyond_tie Straight lf h = omega arith

pub beyond_up : (τ : Style) (s : Side) {g : Net} {p q : ℕ} → Next τ s g p q → g.y p < g.y q → Beyond τ s g p q
beyond_up OneBend rt h b = omega arith
beyond_up OneBend lf h b = omega arith
beyond_up Straight rt h b = omega arith
beyond_up Straight lf h b = omega arith

-- z is clear of the line p q, by a side, or by its height
pub data Clear (τ : Style) (g : Net) (p q z : ℕ) : Type 0 where
  beside : (s : Side) → Cols s (g.col p) (g.col z) → Cols s (g.col q) (g.col z) → Beyond τ s g p z → Beyond τ s g q z → Clear τ g p q z
  above : g.y p < g.y z → g.y q < g.y z → Clear τ g p q z

pub clear-swap : {τ : Style} {g : Net} {p q z : ℕ} → Clear τ g p q z → Clear τ g q p z
clear-swap (beside s c c' b b') = beside s c' c b' b
clear-swap (above b b') = above b' b
