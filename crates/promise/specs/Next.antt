-- The drawing after an accepted call, over a run l .. r of the boundary, before anything is known of it.
use Rattle.std.specs.Prelude.{ℕ, suc, ◌+◌, ◌≤◌, ◌<◌, ◌≡◌, List, length, get_or}
use Rattle.rules.specs.declared.Entry.{Entry}
use Rattle.rules.specs.Styles.{inset}
use Rattle.rules.specs.Points.{Drawing, x_of, y_of, w, m}
use Rattle.rules.specs.Adding.{points_of, A, B, spread, joined_at}

-- the entries are the boundary points l, .., r
pub record IsRun (d : Drawing) (es : List Entry) (l r : ℕ) : Type 0 where
  pub lr : l < r
  pub rm : r < m d
  pub size : l + length es ≡ suc r
  pub point : (i : ℕ) → l + i ≤ r → get_or (points_of es) i 0 ≡ w d (l + i)

-- No subtraction in A, in B or in B - A truncates, read in the drawing c.
pub record Untruncated (l r : ℕ) (c : Drawing) : Type 0 where
  pub left : y_of c (w c l) ≤ x_of c (w c l)
  pub right : inset c.style ≤ x_of c (w c r) + y_of c (w c r)
  pub order : A l c ≤ B r c

-- the drawing with the new point over them: `placed_new` with l and r given
unfoldable pub next : Drawing → List Entry → ℕ → ℕ → Drawing
next d es l r = joined_at es (points_of es) l r (spread l r d)
