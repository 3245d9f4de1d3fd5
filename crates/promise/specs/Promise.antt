-- DEMAND 3, for one-bend drawings, in the order of its clauses: what every drawing promises, with k points, m of them on the boundary, and W the x of point 2.
-- Every word is a definition of `rules`. Points count from 1, boundary indices and lines from 0.
use Rattle.std.specs.Prelude.{ℕ, suc, ◌+◌, ◌*◌, ◌%◌, ◌<◌, ◌≤◌, ◌≡◌, ◌≢◌, true, length}
use Rattle.rules.specs.declared.Style.{Style}
use Rattle.rules.specs.declared.Style.TheVariants.{OneBend, Straight}
use Rattle.rules.specs.Points.{Drawing, x_of, y_of, place_of, w, m, W, line_at}
use Rattle.rules.specs.Ports.{bend_place, free_piece}
use Rattle.rules.specs.Adding.{A, B, step1, step2}
use Rattle.rules.specs.DrawingFile.{highest}
use Rattle.rules.specs.Demand.{ends_at, joins, slanted, towards, noSector, sector_of, counts_at, apart, degree, wide_apart, in_frame}

-- e is the number of a line
abbrev pub IsLine : Drawing → ℕ → Type 0
IsLine d e = e < length d.lines

-- 1. x grows strictly along the boundary.
abbrev pub Rising : Drawing → Type 0
Rising d = (i : ℕ) → suc i < m d → x_of d (w d i) < x_of d (w d (suc i))

-- 2. Each boundary step has its line, and the free piece of a boundary line has slope 1 or -1, or no length.
abbrev pub Bordered : Drawing → Type 0
Bordered d = (i : ℕ) → suc i < m d → (e : ℕ) × IsLine d e × (joins (w d i) (w d (suc i)) (line_at d e) ≡ true)

abbrev pub Slanted : Drawing → Type 0
Slanted d = (i e : ℕ) → suc i < m d → IsLine d e → joins (w d i) (w d (suc i)) (line_at d e) ≡ true → slanted (free_piece d (line_at d e)) ≡ true

-- 3. Every line whose port isn't at a point where it ends leaves that point into one of the three free sectors, and each free sector of a point takes one line at most.
abbrev pub Sectored : Drawing → Type 0
Sectored d = (p e : ℕ) → IsLine d e → counts_at p (line_at d e) ≡ true → sector_of d p (line_at d e) ≢ noSector

abbrev pub Single : Drawing → Type 0
Single d =
    (p e f : ℕ) → IsLine d e → IsLine d f → e ≢ f → counts_at p (line_at d e) ≡ true → counts_at p (line_at d f) ≡ true →
    sector_of d p (line_at d e) ≢ sector_of d p (line_at d f)

-- 4. Two different lines have no point in common but the place of a point where both end.
abbrev pub Planar : Drawing → Type 0
Planar d = (e f : ℕ) → IsLine d e → IsLine d f → e ≢ f → apart d (line_at d e) (line_at d f) ≡ true

-- 5. Two lines at a point with `degree` lines stand at 90 degrees or more, or (2 degree - 1) times the size of the cross product is at least the dot product.
abbrev pub Angled : Drawing → Type 0
Angled d =
    (p e f : ℕ) → IsLine d e → IsLine d f → e ≢ f → ends_at p (line_at d e) ≡ true → ends_at p (line_at d f) ≡ true →
    wide_apart (degree d p) (place_of d p) (towards d p (line_at d e)) (towards d p (line_at d f)) ≡ true

-- 6. The lines number 3k - 3 - m.
abbrev pub Counted : Drawing → Type 0
Counted d = length d.lines + m d + 3 ≡ 3 * d.k

-- 7. All points and bends lie at x from 0 to W and at heights from 0 to W/2 - 1.
abbrev pub PointsFramed : Drawing → Type 0
PointsFramed d = (p : ℕ) → 0 < p → p ≤ d.k → in_frame d (place_of d p) ≡ true

abbrev pub BendsFramed : Drawing → Type 0
BendsFramed d = (e : ℕ) → IsLine d e → in_frame d (bend_place d (line_at d e)) ≡ true

-- 8. W is at most 5k - 9.
abbrev pub Narrow : Drawing → Type 0
Narrow d = W d + 9 ≤ 5 * d.k

pub record Promise (d : Drawing) : Type 0 where
  pub rising : Rising d
  pub bordered : Bordered d
  pub slanted : Slanted d
  pub sectored : Sectored d
  pub single : Single d
  pub planar : Planar d
  pub angled : Angled d
  pub counted : Counted d
  pub points_framed : PointsFramed d
  pub bends_framed : BendsFramed d
  pub narrow : Narrow d

-- ---- THE STRAIGHT DRAWING, document 02, wish 2: clauses 1, 4 and 6 are the same, and so is the first half of 2. A straight line is one piece between its ends.

-- All points lie at x from 0 to W and at heights from 0 to W/2.
abbrev pub Framed : Drawing → Type 0
Framed d = (p : ℕ) → 0 < p → p ≤ d.k → (x_of d p ≤ W d) × (2 * y_of d p ≤ W d)

-- x + y is even along the boundary.
abbrev pub Even : Drawing → Type 0
Even d = (i : ℕ) → i < m d → (x_of d (w d i) + y_of d (w d i)) % 2 ≡ 0

-- So A + B is even where document 01 has its step 3: that step would never move anything.
abbrev pub NoStep3 : Drawing → Type 0
NoStep3 d = (l r : ℕ) → l < r → r < m d → (let c = step2 r (step1 l d) in (A l c + B r c) % 2 ≡ 0)

-- W is 2k - 4.
abbrev pub Wide : Drawing → Type 0
Wide d = W d + 4 ≡ 2 * d.k

-- "A finished panel is 2n - 4 wide and n - 2 high."
abbrev pub Finished : Drawing → Type 0
Finished d = d.k ≡ d.n → (W d + 4 ≡ 2 * d.n) × (highest d.ys + 2 ≡ d.n)

pub record StraightPromise (d : Drawing) : Type 0 where
  pub rising : Rising d
  pub bordered : Bordered d
  pub planar : Planar d
  pub counted : Counted d
  pub framed : Framed d
  pub even : Even d
  pub no_step3 : NoStep3 d
  pub wide : Wide d
  pub finished : Finished d

-- ---- what a drawing of either style promises

abbrev pub Promised : Style → Drawing → Type 0
Promised OneBend d = Promise d
Promised Straight d = StraightPromise d
