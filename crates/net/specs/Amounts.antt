-- F1 to F3 from the amounts, for both drawings: the columns from l + 1 on move by s₁, those from r on by s₂ + s₃ more, s₁ and s₂ at least 1,
-- and the new point has x - y `inset` more than w l, x + y `inset` less than w r.
use Rattle.std.specs.Prelude.{ℕ, suc, ◌+◌, ◌<◌, ◌≤◌, ◌≡◌, cond, leb}
use Rattle.std.proofs.Common.{ap, arith, le-leb}
use Rattle.std.proofs.Math.Decide.{dec_lt, dec_le}
use Rattle.std.proofs.lemmas.Bool.{lt-leb}
use Rattle.rules.specs.declared.Style.{Style}
use Rattle.rules.specs.Styles.{inset}
use Rattle.net.specs.Side.{inset_most, Side, rt, lf, Past, at}
use Rattle.net.specs.Net.{Net, Beyond, Next, beyond_a, beyond_b, beyond_tie, beyond_up}
use Rattle.net.specs.Inv.{Points}
use Rattle.net.specs.Adds.{Places}
use Rattle.net.specs.Walls.{chain}

abbrev pub by : ℕ → ℕ → ℕ → ℕ
by t s c = cond (leb t c) s 0

unfoldable pub moves : ℕ → ℕ → ℕ → ℕ → ℕ → ℕ
moves l r s₁ s₂ c = by (suc l) s₁ c + by r s₂ c

-- how far a column moves, in numbers
pub data Shift (l r s₁ s₂ c : ℕ) : Type 0 where
  none : c ≤ l → moves l r s₁ s₂ c ≡ 0 → Shift l r s₁ s₂ c
  some : l < c → c < r → moves l r s₁ s₂ c ≡ s₁ → Shift l r s₁ s₂ c
  all : r ≤ c → moves l r s₁ s₂ c ≡ s₁ + s₂ → Shift l r s₁ s₂ c

pub shift : (l r s₁ s₂ c : ℕ) → l < r → Shift l r s₁ s₂ c
unfolding moves
shift l r s₁ s₂ c lr =
    elim (dec_le c l) [
      | yes h ↦ none h (simp (lt-leb (suc l) c (omega arith), lt-leb r c (omega arith)) (omega arith))
      | no h ↦ elim (dec_lt c r) [
        | yes k ↦ some (omega arith) k (simp (le-leb (suc l) c (omega arith), lt-leb r c k) (omega arith))
        | no k ↦ all (omega arith) (simp (le-leb (suc l) c (omega arith), le-leb r c (omega arith)))
      ]
    ]

pub moves-mono : (l r s₁ s₂ c d : ℕ) → l < r → c ≤ d → moves l r s₁ s₂ c ≤ moves l r s₁ s₂ d
moves-mono l r s₁ s₂ c d lr h = go (shift l r s₁ s₂ c lr) (shift l r s₁ s₂ d lr)
  where
    go : Shift l r s₁ s₂ c → Shift l r s₁ s₂ d → moves l r s₁ s₂ c ≤ moves l r s₁ s₂ d
    go (none a e) k = omega arith
    go (some a b e) (none a' e') = omega arith
    go (some a b e) (some a' b' e') = omega arith
    go (some a b e) (all a' e') = omega arith
    go (all a e) (none a' e') = omega arith
    go (all a e) (some a' b' e') = omega arith
    go (all a e) (all a' e') = omega arith

module _ (l r s₁ s₂ : ℕ) (lr : l < r) (one : 0 < s₁) (two : 0 < s₂) where
  pub moves_l : moves l r s₁ s₂ l ≡ 0
  moves_l = go (shift l r s₁ s₂ l lr)
    where
      go : Shift l r s₁ s₂ l → moves l r s₁ s₂ l ≡ 0
      go (none a e) = e
      go (some a b e) = omega arith
      go (all a e) = omega arith

  pub moves_r : moves l r s₁ s₂ r ≡ s₁ + s₂
  moves_r = go (shift l r s₁ s₂ r lr)
    where
      go : Shift l r s₁ s₂ r → moves l r s₁ s₂ r ≡ s₁ + s₂
      go (none a e) = omega arith
      go (some a b e) = omega arith
      go (all a e) = e

  pub moves-spread : (s : Side) (c : ℕ) → Past s (at s l r) c → Past s (moves l r s₁ s₂ (at s l r)) (moves l r s₁ s₂ c)
  moves-spread rt c h = go (shift l r s₁ s₂ c lr)
    where
      go : Shift l r s₁ s₂ c → Past rt (moves l r s₁ s₂ l) (moves l r s₁ s₂ c)
      go (none a e) = omega arith
      go (some a b e) = omega (arith, moves_l)
      go (all a e) = omega (arith, moves_l)
  moves-spread lf c h = go (shift l r s₁ s₂ c lr)
    where
      go : Shift l r s₁ s₂ c → Past lf (moves l r s₁ s₂ r) (moves l r s₁ s₂ c)
      go (none a e) = omega (arith, moves_r)
      go (some a b e) = omega (arith, moves_r)
      go (all a e) = omega arith

-- s₂ is the sum of the amounts of steps 2 and 3
pub record Amounts (τ : Style) (g g' : Net) (l r s₁ s₂ : ℕ) : Type 0 where
  pub lr : l < r
  pub rm : r < g.m
  pub one : 0 < s₁
  pub two : 0 < s₂
  pub x' : (p : ℕ) → p < g.k → g'.x p ≡ g.x p + moves l r s₁ s₂ (g.col p)
  pub y' : (p : ℕ) → p < g.k → g'.y p ≡ g.y p
  pub new_a : g'.x g.k + g.y (g.w l) ≡ g.x (g.w l) + inset τ + g'.y g.k
  pub new_b : g'.x g.k + g'.y g.k + inset τ ≡ g'.x (g.w r) + g.y (g.w r)

module _ {τ : Style} {g g' : Net} {l r s₁ s₂ : ℕ} (h : Points τ g) (a : Amounts τ g g' l r s₁ s₂) where
  -- where a boundary point of g stands in g'
  pub x_on : (i : ℕ) → i < g.m → g'.x (g.w i) ≡ g.x (g.w i) + moves l r s₁ s₂ i
  x_on i im = let o = h.on i im in omega (arith, a.x' (g.w i) o.0, ap (moves l r s₁ s₂) o.1)

  pub y_on : (i : ℕ) → i < g.m → g'.y (g.w i) ≡ g.y (g.w i)
  y_on i im = a.y' (g.w i) (h.on i im).0

  pub places_of : Places τ g g' l r
  places_of =
      record { near = near; far = far; over = over }
    where
      xl : g'.x (g.w l) ≡ g.x (g.w l)
      xl = omega (arith, x_on l (omega (arith, a.lr, a.rm)), moves_l l r s₁ s₂ a.lr a.one a.two)

      xr : g'.x (g.w r) ≡ g.x (g.w r) + (s₁ + s₂)
      xr = omega (arith, x_on r a.rm, moves_r l r s₁ s₂ a.lr a.one a.two)

      yl : g'.y (g.w l) ≡ g.y (g.w l)
      yl = y_on l (omega (arith, a.lr, a.rm))

      yr : g'.y (g.w r) ≡ g.y (g.w r)
      yr = y_on r a.rm

      up_l : (i : ℕ) → l < i → i < g.m → g.x (g.w l) + inset τ + g.y (g.w i) ≤ g.x (g.w i) + g.y (g.w l)
      up_l i li im = beyond_a (chain h l i li im).0

      up_r : (i : ℕ) → i < r → g.x (g.w i) + g.y (g.w i) + inset τ ≤ g.x (g.w r) + g.y (g.w r)
      up_r i ir = beyond_b (chain h i r ir a.rm).1

      over : (s : Side) → g.y (g.w (at s l r)) < g'.y g.k
      over rt = omega (arith, a.new_a, a.new_b, xr, up_r l a.lr, inset_most τ, a.one, a.two)
      over lf = omega (arith, a.new_a, a.new_b, xr, up_l r a.lr a.rm, inset_most τ, a.one, a.two)

      next : (s : Side) → Next τ s g' (g.w (at s l r)) g.k
      next rt = omega (arith, xl, yl, a.new_a)
      next lf = omega (arith, yr, a.new_b)

      near : (s : Side) → Beyond τ s g' (g.w (at s l r)) g.k
      near rt = beyond_up τ rt (next rt) (omega (arith, yl, over rt))
      near lf = beyond_up τ lf (next lf) (omega (arith, yr, over lf))

      far : (s : Side) (i : ℕ) → i < g.m → Past s (at s l r) i → Beyond τ s g' g.k (g.w i)
      far rt i im c =
          beyond_tie τ rt (omega (arith, a.new_a, x_on i im, y_on i im, up_l i (omega arith) im, moves-spread l r s₁ s₂ a.lr a.one a.two rt i c))
      far lf i im c =
          beyond_tie τ lf (omega (arith, a.new_b, x_on i im, y_on i im, x_on r a.rm, up_r i (omega arith), moves-spread l r s₁ s₂ a.lr a.one a.two lf i c))
