-- Both drawings as opened: three points, boundary 0, 2, 1. What stands past the three is left to another net.
use Rattle.std.specs.Prelude.{ℕ, zero, suc, ◌+◌, ◌<◌, ◌≡◌, ◌≢◌}
use Rattle.std.proofs.Math.Path.{refl, fun_ext}
use Rattle.std.proofs.Common.{arith}
use Rattle.rules.specs.declared.Style.{Style}
use Rattle.rules.specs.declared.Style.TheVariants.{OneBend, Straight}
use Rattle.rules.specs.Styles.{second_x, third_x, third_y, taken, inset}
use Rattle.net.specs.Side.{Side, rt, lf, Cols}
use Rattle.net.specs.Net.{Net, flat, side_kind, Beyond, Clear, beside, above}
use Rattle.net.specs.Inv.{Points, port, plain, aside, Fits, Lines, Link, Corners, Owners, Alike, Core}

-- the function f with a, b, c for its values at 0, 1, 2
abbrev pub by3 {ℓ} : {A : Type ℓ} → A → A → A → (ℕ → A) → ℕ → A
by3 a b c f zero = a
by3 a b c f (suc zero) = b
by3 a b c f (suc (suc zero)) = c
by3 a b c f (suc (suc (suc n))) = f (suc (suc (suc n)))

-- a function with its own first three values is that function
pub by3-own {ℓ} : {A : Type ℓ} (f : ℕ → A) → f ≡ by3 (f 0) (f 1) (f 2) f
by3-own f = fun_ext same
  where
    same : (n : ℕ) → f n ≡ by3 (f 0) (f 1) (f 2) f n
    same zero = refl
    same (suc zero) = refl
    same (suc (suc zero)) = refl
    same (suc (suc (suc n))) = refl

-- the ports of the three points: right ports of point 0, left ports of point 1, where lines take ports
abbrev pub counts : Style → (Side → ℕ → ℕ) → Side → ℕ → ℕ
counts τ d rt = by3 (taken τ 0) 0 0 (d rt)
counts τ d lf = by3 0 (taken τ 0) 0 (d lf)

-- three points over the net g
unfoldable pub start : Style → Net → Net
start τ g =
    record {
      k = 3;
      m = 3;
      L = 3;
      x = by3 0 (second_x τ) (third_x τ) g.x;
      y = by3 0 0 (third_y τ) g.y;
      col = by3 0 2 1 g.col;
      own = by3 0 0 0 g.own;
      w = by3 0 2 1 g.w;
      u = by3 0 0 1 g.u;
      v = by3 1 2 2 g.v;
      kind = by3 flat (side_kind τ rt (taken τ 0)) (side_kind τ lf (taken τ 0)) g.kind;
      d = counts τ g.d;
      h = by3 0 0 0 g.h;
    }

-- point 2 is above line 0-1, and as far inside as the drawing asks of a new point
record Starts (τ : Style) : Type 0 where
  high : 0 < third_y τ
  left : third_y τ + inset τ ≡ third_x τ
  right : third_x τ + third_y τ + inset τ ≡ second_x τ

starts : (τ : Style) → Starts τ
starts OneBend = omega arith
starts Straight = omega arith

-- what holds of 0, 1 and 2 holds below 3
pub three : (P : ℕ → Type 0) → P 0 → P 1 → P 2 → (p : ℕ) → p < 3 → P p
three P a b c zero h = a
three P a b c (suc zero) h = b
three P a b c (suc (suc zero)) h = c
three P a b c (suc (suc (suc n))) h = absurd (omega arith)

-- the same for two numbers
nine : (P : ℕ → ℕ → Type 0) → P 0 0 → P 0 1 → P 0 2 → P 1 0 → P 1 1 → P 1 2 → P 2 0 → P 2 1 → P 2 2 → (i : ℕ) → i < 3 → (p : ℕ) → p < 3 → P i p
nine P a b c d e f g h i = three _ (three _ a b c) (three _ d e f) (three _ g h i)

-- The facts of two indices: of boundary index i and point p, of line e and point p, of lines e and f.
abbrev Wall : Style → Net → Side → ℕ → ℕ → Type 0
Wall τ t s i p = p ≢ t.w i → Cols s i (t.col p) → Beyond τ s t (t.w i) p

abbrev Tri : Style → Net → ℕ → ℕ → Type 0
Tri τ t e p = p ≢ t.u e → p ≢ t.v e → Clear τ t (t.u e) (t.v e) p

abbrev One : Net → ℕ → ℕ → Type 0
One t e f = t.u e ≡ t.u f → t.v e ≡ t.v f → e ≡ f

module _ (g : Net) where
  -- every other point of its side lies further to that side than a boundary point
  walls : (τ : Style) (s : Side) → (i : ℕ) → i < 3 → (p : ℕ) → p < 3 → Wall τ (start τ g) s i p
  unfolding start
  walls OneBend rt =
      nine (Wall OneBend (start OneBend g) rt) (omega arith) (omega arith) (omega arith) (omega arith) (omega arith) (omega arith) (omega arith) (omega arith) (omega arith)
  walls OneBend lf =
      nine (Wall OneBend (start OneBend g) lf) (omega arith) (omega arith) (omega arith) (omega arith) (omega arith) (omega arith) (omega arith) (omega arith) (omega arith)
  walls Straight rt =
      nine (Wall Straight (start Straight g) rt) (omega arith) (omega arith) (omega arith) (omega arith) (omega arith) (omega arith) (omega arith) (omega arith) (omega arith)
  walls Straight lf =
      nine (Wall Straight (start Straight g) lf) (omega arith) (omega arith) (omega arith) (omega arith) (omega arith) (omega arith) (omega arith) (omega arith) (omega arith)

  -- 1 and 2
  points-start : (τ : Style) → Points τ (start τ g)
  unfolding start
  points-start τ =
      record {
        on = three _ (omega arith) (omega arith) (omega arith);
        cols = three _ (omega arith) (omega arith) (omega arith);
        frame = three _ (omega arith) (omega arith) (omega (arith, (starts τ).left));
        walls = λ s i p im. walls τ s i im p;
      }

  -- point 2 is above line 0, point 1 to the right of line 1, point 0 to the left of line 2
  tri : (τ : Style) → (e : ℕ) → e < 3 → (p : ℕ) → p < 3 → Tri τ (start τ g) e p
  unfolding start
  tri OneBend =
      nine (Tri OneBend (start OneBend g))
      (λ n c. absurd (n refl)) (λ n c. absurd (c refl)) (λ n c. above (omega arith) (omega arith))
      (λ n c. absurd (n refl)) (λ n c. beside rt (omega arith) (omega arith) (omega arith) (omega arith)) (λ n c. absurd (c refl))
      (λ n c. beside lf (omega arith) (omega arith) (omega arith) (omega arith)) (λ n c. absurd (n refl)) (λ n c. absurd (c refl))
  tri Straight =
      nine (Tri Straight (start Straight g))
      (λ n c. absurd (n refl)) (λ n c. absurd (c refl)) (λ n c. above (omega arith) (omega arith))
      (λ n c. absurd (n refl)) (λ n c. beside rt (omega arith) (omega arith) (omega arith) (omega arith)) (λ n c. absurd (c refl))
      (λ n c. beside lf (omega arith) (omega arith) (omega arith) (omega arith)) (λ n c. absurd (n refl)) (λ n c. absurd (c refl))

  -- line 0 is flat, line 1 is at a right port, line 2 at a left port
  fits : (τ : Style) → (e : ℕ) → e < 3 → (let t = start τ g in Fits τ t (t.u e) (t.v e) (t.kind e))
  unfolding start
  fits OneBend =
      three _ (plain (omega arith) (omega arith)) (port (omega arith) (omega arith) (omega arith)) (port (omega arith) (omega arith) (omega arith))
  fits Straight = three _ (refl, aside rt (omega arith)) (refl, aside rt (omega arith)) (refl, aside lf (omega arith))

  -- 3 and 6
  lines_start : (τ : Style) → Lines τ (start τ g)
  unfolding start
  lines_start τ = record { ends = three _ (omega arith) (omega arith) (omega arith); fits = fits τ; tri = λ e p el. tri τ e el p }

  -- line 1 joins the boundary's first step, line 2 its second
  links : (τ : Style) → (i : ℕ) → suc i < 3 → Link τ (start τ g) i
  unfolding start
  links τ zero h = record { s = rt; e = 1; el = omega arith; kind = refl; u = refl; v = refl; next = omega (arith, (starts τ).left) }
  links τ (suc zero) h = record { s = lf; e = 2; el = omega arith; kind = refl; u = refl; v = refl; next = omega (arith, (starts τ).right) }
  links τ (suc (suc i)) h = absurd (omega arith)

  -- 5, the count, and 9
  corners-start : (τ : Style) → Corners τ (start τ g)
  unfolding start
  corners-start τ =
      record {
        size = omega arith;
        placed = omega arith;
        first = refl;
        last = λ i e. let z : i ≡ 2 = omega arith in rw z;
        origin = (refl, refl, refl);
        rest = λ p lt pk. let z : p ≡ 2 = omega arith in rw z (omega (arith, (starts τ).high));
        count = omega arith;
        links = links τ;
      }

  -- no point is covered
  owners-start : (τ : Style) → Owners (start τ g)
  unfolding start
  owners-start τ = record { owned = three _ (λ d. absurd (d refl)) (λ d. absurd (d refl)) (λ d. absurd (d refl)) }

  -- two lines with the same ends are one
  one : (τ : Style) (e : ℕ) → e < 3 → (f : ℕ) → f < 3 → One (start τ g) e f
  unfolding start
  one τ =
      nine (One (start τ g)) (omega arith) (omega arith) (omega arith) (omega arith) (omega arith) (omega arith) (omega arith) (omega arith) (omega arith)

  -- a line's earlier end is earlier
  alike-start : (τ : Style) → Alike (start τ g)
  unfolding start
  alike-start τ = record { up = three _ (omega arith) (omega arith) (omega arith); one = λ e f el fl. one τ e el f fl }

  -- three points that lie so keep what both drawings keep
  pub core-start : (τ : Style) → Core τ (start τ g)
  core-start τ =
      record { points = points-start τ; lines = lines_start τ; owners = owners-start τ; corners = corners-start τ; alike = alike-start τ }
