-- 25 never comes: over every run of a sound drawing, each inner point is reached by its own port or the next one.
use Rattle.std.specs.Prelude.{ℕ, suc, ◌+◌, ◌-◌, ◌<◌, ◌≡◌, Bool, true, false, ◌||◌, List, [], ◌∷◌, length, get_or, ltb, if◌then◌else◌}
use Rattle.std.proofs.Math.Path.{refl}
use Rattle.std.proofs.Common.{subst, add-zero, arith}
use Rattle.std.proofs.Math.Bool.{or-true}
use Rattle.rules.specs.declared.Entry.{Entry}
use Rattle.rules.specs.declared.Style.{Style}
use Rattle.rules.specs.declared.Style.TheVariants.{OneBend, Straight}
use Rattle.rules.specs.Styles.{reach_passes}
use Rattle.rules.specs.Points.{Drawing, x_of, y_of, w}
use Rattle.rules.specs.Adding.{inner, spread, new_x, new_y, row_height, reaches, middle_of, all_reach, points_of}
use Rattle.net.specs.Amounts.{Amounts}
use Rattle.promise.specs.Nets.{net_of}
use Rattle.promise.specs.Sound.{Sound, bent}
use Rattle.promise.specs.Next.{IsRun, next}
use Rattle.promise.specs.Moved.{amount1, amount2}
use Rattle.promise.specs.Places.{amounts}
use Rattle.promise.specs.Lines.{change_of, Test, inner_at, inners, chosen}
use Rattle.promise.specs.Accepted.{all_reached}

-- 25 is false where each inner point is reached by one of its two ports
all_reach_lem : (x y h : ℕ) (c : Drawing) (i : ℕ) (ps : List ℕ) →
    ((j : ℕ) → j < length ps → (reaches x y h (i + j) (x_of c (get_or ps j 0)) (y_of c (get_or ps j 0)) || reaches x y h (suc (i + j)) (x_of c (get_or ps j 0)) (y_of c (get_or ps j 0))) ≡ true) →
    all_reach x y h c i ps ≡ true
all_reach_lem x y h c i [] g = refl
all_reach_lem x y h c i (p ∷ ps) g =
    rw (rw (add-zero i) at (g 0 (omega arith))) (all_reach_lem x y h c (suc i) ps (λ j b. let e : suc i + j ≡ i + suc j = omega arith in rw e (g (suc j) (omega arith))))

module _ (d : Drawing) (es : List Entry) (l r : ℕ) (s : Sound d) (q : IsRun d es l r) where
  -- the port that the rules choose is the point's own, or the next one
  choice : (from i p : ℕ) → Test d es l r (middle_of from i) p ≡ true → (Test d es l r i p || Test d es l r (suc i) p) ≡ true
  choice from i p = go (ltb i from)
    where
      go : (b : Bool) → Test d es l r (if b then i else suc i) p ≡ true → (Test d es l r i p || Test d es l r (suc i) p) ≡ true
      go true e = rw e
      go false e = rw e (or-true (Test d es l r i p))

  -- so one of the two reaches, where lines bend
  each : d.style ≡ OneBend → (i : ℕ) → 0 < i → i < r - l → (Test d es l r i (w d (l + i)) || Test d es l r (suc i) (w d (l + i))) ≡ true
  each b i z c =
      let a = subst (λ τ. Amounts τ (net_of d) (net_of (next d es l r)) l r (amount1 d l) (amount2 d l r)) b (amounts d es l r s q) in
      choice (change_of d es l r) i (w d (l + i)) (chosen d es l r s q (bent s b).inv a i z c)

  -- 25 of all inner points, where it is asked
  passes : (τ : Style) → d.style ≡ τ →
      reach_passes τ (all_reach (new_x l r (spread l r d)) (new_y l r (spread l r d)) (row_height (points_of es)) (spread l r d) 1 (inner (points_of es))) ≡ true
  unfolding Test
  passes OneBend b =
      all_reach_lem (new_x l r (spread l r d)) (new_y l r (spread l r d)) (row_height (points_of es)) (spread l r d) 1 (inner (points_of es))
      (λ j h.
      let one : 1 + j ≡ suc j = omega arith in
      let c : suc j < r - l = omega (arith, inners d es l r s q) in
      rw (one, inner_at d es l r s q j c) (each b (suc j) (omega arith) c))
  passes Straight b = refl

  -- 25 passes, in both drawings
  pub run-reached : all_reached d es l r ≡ true
  unfolding all_reached
  run-reached = passes d.style refl
