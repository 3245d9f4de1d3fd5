-- NO SUBTRACTION OF THE RULES TRUNCATES: the definitions have no numbers below 0, and in a drawing that calls or files reach none would be below 0.
-- The halves of step 4 are whole, in both drawings; and in a one-bend drawing every port's index is in its range. Every word is a definition of `rules`. Points count from 1, boundary indices and lines from 0.
use Rattle.std.specs.Prelude.{ℕ, ◌+◌, ◌-◌, ◌*◌, ◌%◌, ◌<◌, ◌≤◌, ◌≡◌, ◌↔◌, false}
use Rattle.rules.specs.declared.Style.{Style}
use Rattle.rules.specs.declared.Style.TheVariants.{OneBend, Straight}
use Rattle.rules.specs.declared.Bend.TheVariants.{Left, Right, Middle}
use Rattle.rules.specs.Styles.{inset}
use Rattle.rules.specs.Points.{Drawing, x_of, y_of, dl_of, dr_of, h_of, w, m, line_at}
use Rattle.rules.specs.Ports.{has_port}
use Rattle.rules.specs.Adding.{step1, step2, A, B, spread}
use Rattle.promise.specs.Promise.{IsLine}

-- ---- the claim: ports

-- "Right port j (1 to dr)", of the earlier point.
abbrev pub RightPorts : Drawing → Type 0
RightPorts d = (e j : ℕ) → IsLine d e → (line_at d e).bend ≡ Right j → (let u = (line_at d e).earlier in (1 ≤ j) × (j ≤ dr_of d u))

-- "Left port j (1 to dl) is (x - dl - 1, y + j)", of the earlier point.
abbrev pub LeftPorts : Drawing → Type 0
LeftPorts d = (e j : ℕ) → IsLine d e → (line_at d e).bend ≡ Left j → (let u = (line_at d e).earlier in (1 ≤ j) × (j ≤ dl_of d u) × (dl_of d u + 1 ≤ x_of d u))

-- "Middle port i (1 to 2h - 1) is (x - h + i, y - h)", of the later point.
abbrev pub MiddlePorts : Drawing → Type 0
MiddlePorts d = (e i : ℕ) → IsLine d e → (line_at d e).bend ≡ Middle i → (let v = (line_at d e).later in (1 ≤ i) × (i + 1 ≤ 2 * h_of d v) × (h_of d v ≤ x_of d v) × (h_of d v ≤ y_of d v))

-- Line 1-2 is line 0.
abbrev pub FirstLine : Drawing → Type 0
FirstLine d = IsLine d 0 × ((line_at d 0).later ≡ 2) × ((line_at d 0).earlier ≡ 1)

-- "A line's bend is at a left, right or middle port, or it has none (line 1-2 only)".
abbrev pub NoPort : Drawing → Type 0
NoPort d = (e : ℕ) → IsLine d e → (has_port (line_at d e) ≡ false) ↔ (e ≡ 0)

-- ---- the claim: steps 3 and 4, over every run wl, .., wr that a call could take

-- "A = (x - y of wl) + 1 and B = (x + y of wr) - 1", the 1 where lines bend: neither difference is below 0 in the drawing c.
abbrev pub NotBelow : ℕ → ℕ → Drawing → Type 0
NotBelow l r c = (y_of c (w c l) ≤ x_of c (w c l)) × (inset c.style ≤ x_of c (w c r) + y_of c (w c r))

-- Step 3 reads A and B after steps 1 and 2.
abbrev pub Step3 : Drawing → Type 0
Step3 d = (l r : ℕ) → l < r → r < m d → NotBelow l r (step2 r (step1 l d))

-- Step 4 reads them after step 3. "The new point is at ((A + B)/2, (B - A)/2)": B - A isn't below 0, and both halves are whole.
abbrev pub Step4 : Drawing → Type 0
Step4 d =
    (l r : ℕ) → l < r → r < m d →
    (let c = spread l r d in NotBelow l r c × (A l c ≤ B r c) × ((A l c + B r c) % 2 ≡ 0) × ((B r c - A l c) % 2 ≡ 0))

-- ---- both

-- of either drawing
pub record ExactSteps (d : Drawing) : Type 0 where
  pub step3 : Step3 d
  pub step4 : Step4 d

-- of a one-bend drawing
pub record Exact (d : Drawing) : Type 0 where
  pub right : RightPorts d
  pub left : LeftPorts d
  pub middle : MiddlePorts d
  pub first : FirstLine d
  pub no_port : NoPort d
  pub steps : ExactSteps d

abbrev pub ExactBy : Style → Drawing → Type 0
ExactBy OneBend d = Exact d
ExactBy Straight d = ExactSteps d
