-- NO SUBTRACTION OF THE RULES TRUNCATES: the definitions have no numbers below 0, and in a drawing that calls or files reach none would be below 0.
-- The halves of step 4 are whole, in both drawings; and in a one-bend drawing every port's index is in its range. Every word is a definition of `rules`. Points count from 1, boundary indices and lines from 0.
use Rattle.std.specs.Prelude.{[], ℕ, suc, pred, ◌+◌, ◌-◌, ◌%◌, ◌<◌, ◌≤◌, ◌≡◌, refl, false, List, ◌∷◌, map, length, get_or, take, drop}
use Rattle.std.proofs.Common.{ap, ◌∙◌, true≢false, arith, length-drop, length-take-le, get_or-take, get_or-drop}
use Rattle.std.proofs.lemmas.List.{length-map}
use Rattle.rules.specs.declared.Style.{Style}
use Rattle.rules.specs.declared.Style.TheVariants.{OneBend, Straight}
use Rattle.rules.specs.declared.Kind.TheVariants.{Guide}
use Rattle.rules.specs.declared.Entry.{Entry}
use Rattle.rules.specs.declared.Bend.{Bend}
use Rattle.rules.specs.declared.Bend.TheVariants.{Left, Right, Middle, NoBend}
use Rattle.rules.specs.Points.{Drawing, x_of, y_of, h_of, m, line_at}
use Rattle.rules.specs.Ports.{has_port}
use Rattle.rules.specs.Adding.{points_of}
use Rattle.net.specs.Side.{Side, rt, lf}
use Rattle.net.specs.Net.{side, middle, flat}
use Rattle.net.specs.Ports.{aside_of}
use Rattle.promise.specs.Promise.{IsLine, NoStep3}
use Rattle.promise.specs.Nets.{bend_kind, net_of}
use Rattle.promise.specs.Sound.{Sound, Bent, Unbent, bent}
use Rattle.promise.specs.Next.{IsRun}
use Rattle.promise.specs.Places.{exact₃, exact₄, even, even₂}
use Rattle.promise.specs.Spots.{ported}
use Rattle.promise.specs.Exact.{RightPorts, LeftPorts, MiddlePorts, FirstLine, NoPort, ExactSteps, Exact, ExactBy}

-- ---- the proof: ports

module _ (d : Drawing) (s : Bent d) where
  -- a port on a side is one of those that its owner has there
  on_side : (t : Side) (e j : ℕ) → IsLine d e → bend_kind (line_at d e).bend ≡ side t j → (0 < j) × (j ≤ (net_of d).d t ((net_of d).u e))
  on_side t e j el q = let f = aside_of ((net_of d).kind e) q (s.inv.core.lines.fits e el) in (f.1, f.2)

  -- right ports
  right_ports : RightPorts d
  right_ports e j el q = on_side rt e j el (ap bend_kind q)

  -- left ports: the later end lies beyond the port and no further left than 0
  left_ports : LeftPorts d
  left_ports e j el q =
      let i = on_side lf e j el (ap bend_kind q) in
      let f = s.inv.slopes.slope lf j e el (ap bend_kind q) in
      (i.0, omega (arith, i.1), omega (arith, f.rise, f.run))

  -- middle ports: the earlier end lies below the port and no lower than 0, and no y is more than its x
  middle-ports : MiddlePorts d
  middle-ports e i el q =
      let v = (line_at d e).later in
      let f = s.inv.slopes.reach i e el (ap bend_kind q) in
      let b = s.inv.core.points.frame (pred v) (s.inv.core.lines.ends e el).1 in
      let h : h_of d v ≤ y_of d v = omega (arith, f.to_a, f.to_b) in
      (f.first, omega (arith, f.last), omega (arith, b), h)

  -- line 0 joins points 1 and 2
  first_line_lem : FirstLine d
  first_line_lem =
      let some = s.inv.frees.some in
      let g : (pred (line_at d 0).earlier ≡ 0) × (pred (line_at d 0).later ≡ 1) = s.inv.frees.grounded in
      let n = s.sound.ended.ends 0 some in
      (some, omega (arith, g.1, n.1), omega (arith, g.0, n.0))

  -- the heights of its ends, and the x of point 1
  ground_y : (y_of d (line_at d 0).earlier ≡ 0) × (y_of d (line_at d 0).later ≡ 0) × (x_of d (line_at d 0).earlier ≡ 0)
  ground_y =
      let g = s.inv.frees.grounded in
      let o = s.inv.core.corners.origin in
      (ap (net_of d).y g.0 ∙ o.1, ap (net_of d).y g.1 ∙ o.2, ap (net_of d).x g.0 ∙ o.0)

  -- a port on a side would lift it
  not_side : (t : Side) (j : ℕ) → bend_kind (line_at d 0).bend ≡ side t j → ⊥
  not_side t j q =
      let el = first_line_lem.0 in
      omega (arith, (on_side t 0 j el q).0, (s.inv.slopes.slope t j 0 el q).rise, ground_y)

  -- a middle port would lie left of point 1
  not_middle : (i : ℕ) → bend_kind (line_at d 0).bend ≡ middle i → ⊥
  not_middle i q = let f = s.inv.slopes.reach i 0 first_line_lem.0 q in omega (arith, f.first, f.to_a, ground_y)

  -- so it has no port
  none_first : (b : Bend) → (line_at d 0).bend ≡ b → ported b ≡ false
  none_first (Left j) q = absurd (not_side lf j (ap bend_kind q))
  none_first (Right j) q = absurd (not_side rt j (ap bend_kind q))
  none_first (Middle i) q = absurd (not_middle i (ap bend_kind q))
  none_first NoBend q = refl

  -- and no other line is without one
  no_port_lem : NoPort d
  no_port_lem e el =
      (λ q. s.inv.frees.base e el (straight (line_at d e).bend q), λ q. ap (λ (e : ℕ). has_port (line_at d e)) q ∙ none_first (line_at d 0).bend refl)
    where
      straight : (b : Bend) → ported b ≡ false → bend_kind b ≡ flat
      straight (Left j) q = absurd (true≢false q)
      straight (Right j) q = absurd (true≢false q)
      straight (Middle i) q = absurd (true≢false q)
      straight NoBend q = refl

-- ---- the proof: steps 3 and 4

-- where A + B is even, so is B - A
even_difference : (a b : ℕ) → a ≤ b → (a + b) % 2 ≡ 0 → (b - a) % 2 ≡ 0
even_difference a b h e = omega arith

-- an entry for each point
abbrev guide_to : ℕ → Entry
guide_to p = record { point = p; kind = Guide }

-- they name those points
points_back : (ps : List ℕ) → points_of (map guide_to ps) ≡ ps
points_back [] = refl
points_back (p ∷ ps) = ap (λ (l : List ℕ). p ∷ l) (points_back ps)

module _ (d : Drawing) (l r : ℕ) (lr : l < r) (rm : r < m d) where
  -- the boundary points l, .., r, and the entries of a call that takes them
  abbrev run : List ℕ
  run = take (suc r - l) (drop l d.boundary)

  abbrev entries : List Entry
  entries = map guide_to run

  -- there are r - l + 1
  run_length : length run ≡ suc r - l
  run_length = length-take-le (suc r - l) (drop l d.boundary) (omega (arith, length-drop l d.boundary))

  -- they are such a run
  is_run : IsRun d entries l r
  is_run =
      record {
        lr = lr;
        rm = rm;
        size = omega (arith, length-map run guide_to, run_length);
        point = λ i b.
            ap (λ (ps : List ℕ). get_or ps i 0) (points_back run) ∙ get_or-take (suc r - l) (drop l d.boundary) i 0 (omega arith) ∙ get_or-drop l d.boundary i 0;
      }

-- ---- A SOUND DRAWING IS EXACT.

pub steps-exact : (d : Drawing) → Sound d → ExactSteps d
steps-exact d s =
    record {
      step3 = λ l r lr rm. let z = exact₃ d (entries d l r lr rm) l r s (is_run d l r lr rm) in (z.left, z.right);
      step4 = λ l r lr rm.
          let q = is_run d l r lr rm in
          let z = exact₄ d (entries d l r lr rm) l r s q in
          let v = even d (entries d l r lr rm) l r s q in
          ((z.left, z.right), z.order, v, even_difference _ _ z.order v);
    }

pub bent-exact : (d : Drawing) → Bent d → Exact d
bent-exact d s =
    record {
      right = right_ports d s;
      left = left_ports d s;
      middle = middle-ports d s;
      first = first_line_lem d s;
      no_port = no_port_lem d s;
      steps = steps-exact d s.sound;
    }

-- in a straight drawing step 3 would never move anything
pub no_step_3 : (d : Drawing) → Unbent d → NoStep3 d
no_step_3 d s l r lr rm = even₂ d (entries d l r lr rm) l r s.sound (is_run d l r lr rm) s.style

-- so every sound drawing is exact, by its style
pub sound-exact : (d : Drawing) → Sound d → ExactBy d.style d
sound-exact d s = go d.style refl
  where
    go : (τ : Style) → d.style ≡ τ → ExactBy τ d
    go OneBend b = bent-exact d (bent s b)
    go Straight b = steps-exact d s
