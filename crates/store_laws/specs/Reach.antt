-- Step 5 by distances: a middle port of the new point reaches an inner point in the drawing exactly where the distances from wl say so.
use Rattle.std.specs.Prelude.{ℕ, suc, ◌+◌, ◌-◌, ◌*◌, ◌/◌, ◌<◌, ◌≤◌, ◌≡◌, refl, Bool, true, false, not, ◌&&◌, ◌||◌, List, [], ◌∷◌, map, length, get_or, leb, if◌then◌else◌}
use Rattle.std.proofs.Common.{sym, ap₂, ◌∙◌, subst, arith, leb-true, leb-false, le-leb}
use Rattle.std.proofs.Math.Path.{ap}
use Rattle.std.proofs.lemmas.Bool.{lt-leb}
use Rattle.rules.specs.declared.Refusal.TheVariants.{NoReach}
use Rattle.rules.specs.Styles.{reach_passes}
use Rattle.rules.specs.Refusals.{refuse_if}
use Rattle.rules.specs.Results.{then_same}
use Rattle.rules.proofs.Lengths.{length-call}
use Rattle.rules.specs.Points.{Drawing, x_of, y_of, w}
use Rattle.rules.specs.Entries.{read_entry}
use Rattle.rules.specs.Readings.{entry_of}
use Rattle.rules.proofs.Readings.{points_read_lem, judge_of}
use Rattle.rules.specs.Adding.{spread, new_x, new_y, inner, row_height, reaches, change, all_reach, call_tests, judge}
use Rattle.store_links.specs.declared.Counts.{Counts}
use Rattle.store_links.specs.declared.Spot.{Spot}
use Rattle.store_links.specs.Arrays.{Arrays, Stores, at_point}
use Rattle.store_links.specs.Placing.{entry_point, way, port_reaches, change_from, all_reach_from, inner_count}
use Rattle.store_links.specs.Judging.{passes}
use Rattle.store_links.specs.Storing.{spot_for, change_for, judged}
use Rattle.net.specs.Amounts.{Shift, none, some, all, shift}
use Rattle.promise.specs.Sound.{Sound}
use Rattle.promise.specs.Next.{IsRun}
use Rattle.promise.specs.Moved.{amount1, amount2}
use Rattle.promise.specs.Places.{x_on}
use Rattle.promise.specs.Change.{get_d_inner, length-inner}
use Rattle.promise.specs.Lines.{change_of}
use Rattle.promise.specs.Accepted.{tests_passed}
use Rattle.store_laws.specs.Spotted.{Spotted}
use Rattle.store_laws.specs.Reading.{run_of, y_at, run-size, entry_says, way_is}
use Rattle.store_laws.specs.Tests.{passes_is}
use Rattle.store_laws.specs.Spots.{spot_x, spot_y, spot_h, spot-s1, spot-rest}

-- ---- plain numbers

-- A comparison stays where both sides grow by n.
leb-shift : (n a b a' b' : ℕ) → n + a ≡ a' → n + b ≡ b' → leb a b ≡ leb a' b'
leb-shift n a b a' b' p q = go (leb a b) refl
  where
    go : (t : Bool) → leb a b ≡ t → t ≡ leb a' b'
    go true e = sym (le-leb a' b' (omega (arith, leb-true a b e)))
    go false e = sym (lt-leb a' b' (omega (arith, leb-false a b e)))

-- Reaching stays where all moves right by n.
reach-plain : (n x x' y y' h h' i a a' e e' : ℕ) → n + x ≡ x' → y ≡ y' → h ≡ h' → n + a ≡ a' → e ≡ e' → reaches x y h i a e ≡ reaches x' y' h' i a' e'
reach-plain n x x' y y' h h' i a a' e e' p q u v z =
    ap₂ ◌&&◌ (leb-shift n (x + i + e) (a + y) (x' + i + e') (a' + y') (omega arith) (omega arith))
    (leb-shift n (a + e + 2 * h) (x + y + i) (a' + e' + 2 * h') (x' + y' + i) (omega arith) (omega arith))

-- ---- tests that agree point by point give the same change, and agree on all

module _ (p : Spot) (gap ys es : List ℕ) (x y h : ℕ) (c : Drawing) where
  -- the tests agree on the points of ps, which are the entries i, i + 1, ..
  record Agree (i : ℕ) (ps : List ℕ) : Type 0 where
    at : (port j k : ℕ) → k ≡ i + j → j < length ps → port_reaches p gap ys es port k ≡ reaches x y h port (x_of c (get_or ps j 0)) (y_of c (get_or ps j 0))

  -- They agree on all but the first.
  agree-tail : (i q : ℕ) (ps : List ℕ) → Agree i (q ∷ ps) → Agree (suc i) ps
  agree-tail i q ps g = record { at = λ port j k e b. g.at port (suc j) k (omega arith) (omega arith) }

  -- The change is the same.
  change_same : (i : ℕ) (ps : List ℕ) → Agree i ps → change_from p gap ys es i (length ps) ≡ change x y h c i ps
  change_same i [] g = refl
  change_same i (q ∷ ps) g =
      ap₂ (λ t n. if t then n else i) (g.at i 0 i (omega arith) (omega arith)) (change_same (suc i) ps (agree-tail i q ps g))

  -- So is whether all are reached.
  all_same : (i : ℕ) (ps : List ℕ) → Agree i ps → all_reach_from p gap ys es i (length ps) ≡ all_reach x y h c i ps
  all_same i [] g = refl
  all_same i (q ∷ ps) g =
      ap₂ ◌&&◌ (ap₂ ◌||◌ (g.at i 0 i (omega arith) (omega arith)) (g.at (suc i) 0 i (omega arith) (omega arith)))
      (all_same (suc i) ps (agree-tail i q ps g))

-- ---- the run

module _ {d : Drawing} {a : Arrays} {c : Counts} (es : List ℕ) {l r : ℕ} (t : Stores d a c) (s : Sound d) (q : IsRun d (map entry_of es) l r) where
  -- An inner point moves by s1.
  inner_x : (k : ℕ) → 0 < k → l + k < r → x_of d (w d l) + (way a.gap es k + (spot_for d.style a es).s1) ≡ x_of (spread l r d) (w d (l + k))
  inner_x k low high = go (shift l r (amount1 d l) (amount2 d l r) (l + k) q.lr)
    where
      go : Shift l r (amount1 d l) (amount2 d l r) (l + k) → x_of d (w d l) + (way a.gap es k + (spot_for d.style a es).s1) ≡ x_of (spread l r d) (w d (l + k))
      go (none b e) = absurd (omega arith)
      go (some b b' e) = omega (arith, way_is es t s q k (omega arith), spot-s1 es t s q, x_on d (map entry_of es) l r s q (l + k) (omega (arith, q.rm)))
      go (all b e) = absurd (omega arith)

  -- Its height is read from the array.
  inner_y : (k : ℕ) → l + k ≤ r → at_point a.ys (entry_point es k) ≡ y_of d (w d (l + k))
  inner_y k h = entry_says es s q a.ys (y_of d) (y_at t) k h

  -- Inner point j, from 0, is boundary point l + j + 1.
  inner-point : (j k : ℕ) → k ≡ suc j → l + k < r → w d (l + k) ≡ get_or (inner (run_of es)) j 0
  inner-point j k e h =
      sym (q.point k (omega arith)) ∙ ap (λ n. get_or (run_of es) n 0) e ∙ sym (get_d_inner (run_of es) j (omega (arith, length-call es, run-size es q)))

  -- The run has as many inner points as the code counts.
  inner_count_lem : length (inner (run_of es)) ≡ inner_count es
  inner_count_lem = length-inner (run_of es) ∙ ap (λ n. n - 2) (length-call es)

  -- The row is as high.
  row_is : (spot_for d.style a es).h ≡ row_height (run_of es)
  row_is = spot_h es t s q ∙ ap (λ n. n / 2) (sym (length-call es))

  -- The tests agree on the inner points.
  agree : Agree (spot_for d.style a es) a.gap a.ys es (new_x l r (spread l r d)) (new_y l r (spread l r d)) (row_height (run_of es)) (spread l r d) 1 (inner (run_of es))
  agree = record { at = at }
    where
      at : (port j k : ℕ) → k ≡ 1 + j → j < length (inner (run_of es)) →
          port_reaches (spot_for d.style a es) a.gap a.ys es port k ≡
          reaches (new_x l r (spread l r d)) (new_y l r (spread l r d)) (row_height (run_of es)) port (x_of (spread l r d) (get_or (inner (run_of es)) j 0)) (y_of (spread l r d) (get_or (inner (run_of es)) j 0))
      at port j k e b =
          let high : l + k < r = omega (arith, inner_count_lem, run-size es q) in
          let point : w d (l + k) ≡ get_or (inner (run_of es)) j 0 = inner-point j k (omega arith) high in
          reach-plain (x_of d (w d l)) (spot_for d.style a es).dx _ (spot_for d.style a es).y _ (spot_for d.style a es).h _ port (way a.gap es k + (spot_for d.style a es).s1) _ (at_point a.ys (entry_point es k)) _
          (spot_x es t s q) (spot_y es t s q) row_is (inner_x k (omega arith) high ∙ ap (λ p. x_of (spread l r d) p) point)
          (inner_y k (omega arith) ∙ ap (λ p. y_of d p) point)

  -- 25 is the same.
  pub reach_is : all_reach_from (spot_for d.style a es) a.gap a.ys es 1 (inner_count es) ≡
      all_reach (new_x l r (spread l r d)) (new_y l r (spread l r d)) (row_height (run_of es)) (spread l r d) 1 (inner (run_of es))
  reach_is =
      ap (all_reach_from (spot_for d.style a es) a.gap a.ys es 1) (sym inner_count_lem) ∙ all_same (spot_for d.style a es) a.gap a.ys es _ _ _ _ 1 (inner (run_of es)) agree

  -- So is where the ports change.
  pub change_is : change_for d.style a es ≡ change_of d (map entry_of es) l r
  unfolding change_of
  change_is =
      ap (change_from (spot_for d.style a es) a.gap a.ys es 1) (sym inner_count_lem) ∙ change_same (spot_for d.style a es) a.gap a.ys es _ _ _ _ 1 (inner (run_of es)) agree

  -- All that the distances say of the drawing.
  pub spotted : Spotted d es l r (spot_for c.style a es) (change_for c.style a es)
  spotted =
      subst (λ τ. Spotted d es l r (spot_for τ a es) (change_for τ a es)) (sym t.style)
      (record {
        x = spot_x es t s q;
        y = spot_y es t s q;
        h = spot_h es t s q;
        s1 = spot-s1 es t s q;
        rest = spot-rest es t s q;
        change = change_is;
      })

-- The code judges a call as the rules do.
pub judged_is : {d : Drawing} {a : Arrays} {c : Counts} → Stores d a c → Sound d → (es : List ℕ) → judged a c es ≡ judge d (map read_entry es)
unfolding judged
judged_is {d} {a} {c} t s es =
    then_same (passes a.owner a.next c.n c.k c.m es) (call_tests d (map read_entry es)) _ _ (passes_is t s es)
    (λ h.
    ap (λ τ. refuse_if (not (reach_passes τ (all_reach_from (spot_for τ a es) a.gap a.ys es 1 (inner_count es)))) NoReach 0) t.style ∙
    ap (λ b. refuse_if (not (reach_passes d.style b)) NoReach 0)
    (reach_is es t s (tests_passed d (map read_entry es) (map entry_of es) (points_read_lem es) (sym (passes_is t s es) ∙ h)).run)) ∙
    sym (judge_of d (map read_entry es) (run_of es) (points_read_lem es))
