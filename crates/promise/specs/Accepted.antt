-- What an accepted call tells: every test passed, so the entries are the boundary from l on, and the drawing is the next one. And back: which calls are accepted.
use Rattle.std.specs.Prelude.{ℕ, zero, suc, ◌+◌, ◌-◌, ◌<◌, ◌≤◌, ◌≡◌, refl, Bool, false, not, ◌&&◌, ◌||◌, List, [], ◌∷◌, map, length, get_or, drop, eqb, ltb, leb}
use Rattle.std.proofs.Common.{sym, ap, ◌∙◌, arith, length-drop, get_or-drop, leb-false, ltb-false, eqb-true, eq-eqb, ne_eqb, le-ltb}
use Rattle.std.proofs.Math.Path.{subst₂}
use Rattle.std.proofs.Math.Bool.{true, or-true}
use Rattle.std.proofs.lemmas.Bool.{lt-leb, not-false}
use Rattle.rules.specs.declared.Entry.{Entry}
use Rattle.rules.specs.declared.Reading.{Reading}
use Rattle.rules.specs.declared.Reading.TheVariants.{Given}
use Rattle.rules.specs.declared.Refusal.TheVariants.{Finished, FewEntries, NotPlaced, Covered, NoRun, NotWhole, NoReach}
use Rattle.rules.specs.Basics.{elem}
use Rattle.rules.specs.Refusals.{Result, good, refused, refuse_if}
use Rattle.rules.specs.Results.{never-good, same_value, followed, both_pass, test_false, tested, then_to, goes_to}
use Rattle.rules.proofs.Lengths.{length-points}
use Rattle.rules.specs.Entries.{points_read}
use Rattle.rules.specs.Readings.{entry_of}
use Rattle.rules.proofs.Readings.{points-given, tests_of, judge_of, adding, add_entries_lem}
use Rattle.rules.specs.Styles.{reach_passes}
use Rattle.rules.specs.Points.{Drawing, w, m}
use Rattle.rules.specs.Adding.{l_of, r_of, inner, row_height, spread, new_x, new_y, all_reach, points_of, entry_tests, run_tests, call_tests, judge, placed_new, add_entries, add}
use Rattle.rules.specs.Calls.{left, after}
use Rattle.promise.specs.Next.{IsRun, next}

-- ---- what the tests leave

-- 8 passed: the run is no longer than the boundary's rest, and has its points
run-front : (i : ℕ) (ws run : List ℕ) → run_tests i ws run ≡ good tt → (length run ≤ length ws) × ((j : ℕ) → j < length run → get_or run j 0 ≡ get_or ws j 0)
run-front i ws [] h = (omega arith, λ j b. absurd (omega arith))
run-front i [] (p ∷ run) h = absurd (never-good h)
run-front i (q ∷ ws) (p ∷ run) h =
    let k = tested (not (eqb p q)) NoRun i (run_tests (suc i) ws run) tt h in
    go (eqb-true p q (not-false (eqb p q) k.passed)) (run-front (suc i) ws run k.last)
  where
    go : p ≡ q → (length run ≤ length ws) × ((j : ℕ) → j < length run → get_or run j 0 ≡ get_or ws j 0) →
        (length (p ∷ run) ≤ length (q ∷ ws)) × ((j : ℕ) → j < length (p ∷ run) → get_or (p ∷ run) j 0 ≡ get_or (q ∷ ws) j 0)
    go e f = (omega (arith, f.0), points)
      where
        points : (j : ℕ) → j < length (p ∷ run) → get_or (p ∷ run) j 0 ≡ get_or (q ∷ ws) j 0
        points zero b = e
        points (suc j) b = f.1 j (omega arith)

-- 9 passed: where point n comes, the run is as long as the boundary
whole_passed : (k n j m : ℕ) → (eqb (k + 1) n && not (eqb j m)) ≡ false → suc k ≡ n → j ≡ m
whole_passed k n j m h e = eqb-true j m (not-false (eqb j m) (rw (eq-eqb (k + 1) n (omega arith)) at h))

-- there is room, the entries are the boundary from l to r, and point n's run is the whole boundary
pub record Passed (d : Drawing) (es : List Entry) (l r : ℕ) : Type 0 where
  pub room : d.k < d.n
  pub run : IsRun d es l r
  pub whole : suc d.k ≡ d.n → length es ≡ m d

-- 21, 5, 8 and 9 tell this of entries that name these points, where l is the index of the first; 13, 6 and 7 tell nothing more
pub tests_passed : (d : Drawing) (rs : List Reading) (es : List Entry) → points_read rs ≡ points_of es → call_tests d rs ≡ good tt → Passed d es (l_of d (points_of es)) (r_of d (points_of es))
tests_passed d rs es same h =
    let run = points_of es in
    let l = l_of d run in
    let size = length-points es in
    let h21 = tested (leb d.n d.k) Finished 0 _ tt (sym (tests_of d rs run same) ∙ h) in
    let h5 = tested (ltb (length run) 2) FewEntries 0 _ tt h21.last in
    let h6 = both_pass (entry_tests d 0 rs) _ h5.last in
    let h8 = both_pass (run_tests 0 (drop l d.boundary) run) _ h6.1 in
    let some : 2 ≤ length run = ltb-false (length run) 2 h5.passed in
    let f = run-front 0 (drop l d.boundary) run h8.0 in
    let fits : length run ≤ m d - l = omega (arith, f.0, length-drop l d.boundary) in
    record {
      room = leb-false d.n d.k h21.passed;
      run =
          record {
            lr = omega arith;
            rm = omega arith;
            size = omega arith;
            point = λ i b. f.1 i (omega arith) ∙ get_or-drop l d.boundary i 0;
          };
      whole = λ e. sym size ∙ whole_passed d.k d.n (length run) (m d) (test_false _ NotWhole 0 h8.1) e;
    }

-- 25 of the run l .. r: every inner point is reached
unfoldable pub all_reached : Drawing → List Entry → ℕ → ℕ → Bool
all_reached d es l r =
    let c = spread l r d in
    reach_passes d.style (all_reach (new_x l r c) (new_y l r c) (row_height (points_of es)) c 1 (inner (points_of es)))

-- ---- an accepted call

-- the call with the entries es took d to e, over the run l .. r, where l is the index of its first entry
pub record Accepted (d : Drawing) (es : List Entry) (e : Drawing) : Type 0 where
  pub l : ℕ
  pub r : ℕ
  pub first : l_of d (points_of es) ≡ l
  pub run : IsRun d es l r
  pub is : e ≡ next d es l r
  pub room : d.k < d.n
  pub whole : suc d.k ≡ d.n → length es ≡ m d
  pub reach : all_reached d es l r ≡ true

-- a call that gave a drawing was accepted so
pub accepted : (d e : Drawing) (es : List Entry) → add_entries d es ≡ good e → Accepted d es e
unfolding all_reached placed_new next
accepted d e es h =
    let t = followed (judge d (map Given es)) (good (placed_new d es (points_of es))) e (sym (adding d es) ∙ h) in
    let j = both_pass (call_tests d (map Given es)) _ (sym (judge_of d (map Given es) (points_of es) (points-given es)) ∙ t.first) in
    let p = tests_passed d (map Given es) es (points-given es) j.0 in
    record {
      l = l_of d (points_of es);
      r = r_of d (points_of es);
      first = refl;
      run = p.run;
      is = sym (same_value _ e t.last);
      room = p.room;
      whole = p.whole;
      reach = not-false _ (test_false _ NoReach 0 j.1);
    }

-- ---- a list of calls

-- what every accepted call keeps is kept by every list of calls: a refused call leaves the drawing
pub after_keeps : (P : Drawing → Type 0) → ((d e : Drawing) (es : List Entry) → P d → add_entries d es ≡ good e → P e) → (d : Drawing) → P d →
    (calls : List (List ℕ)) → P (after d calls)
after_keeps P step d h [] = h
after_keeps P step d h (call ∷ calls) = after_keeps P step (left d (add d call)) (go (add d call) refl) calls
  where
    go : (r : Result Drawing) → add d call ≡ r → P (left d r)
    go (good e) q = step d e (map entry_of call) h (add_entries_lem d e call q)
    go (refused r p) q = h

-- ---- read backwards: a run whose tests pass is accepted

-- 8 passes where the run is the front of the boundary's rest
run-good : (i : ℕ) (ws run : List ℕ) → length run ≤ length ws → ((j : ℕ) → j < length run → get_or run j 0 ≡ get_or ws j 0) → run_tests i ws run ≡ good tt
run-good i ws [] b h = refl
run-good i [] (p ∷ run) b h = absurd (omega arith)
run-good i (q ∷ ws) (p ∷ run) b h =
    goes_to (not (eqb p q)) NoRun i _ _ (ap not (eq-eqb p q (h 0 (omega arith))))
    (run-good (suc i) ws run (omega arith) (λ j c. h (suc j) (omega arith)))

-- p is placed and stands on the boundary: neither 6 nor 7
record Stands (d : Drawing) (p : ℕ) : Type 0 where
  low : 0 < p
  high : p ≤ d.k
  on : elem p d.boundary ≡ true

-- 6 and 7 pass where every entry stands, and 13 where none is marked both
entries-good : (d : Drawing) (i : ℕ) (es : List Entry) → ((j : ℕ) → j < length (points_of es) → Stands d (get_or (points_of es) j 0)) → entry_tests d i (map Given es) ≡ good tt
entries-good d i [] h = refl
entries-good d i (e ∷ es) h =
    let p = e.point in
    let z = h 0 (omega arith) in
    goes_to (eqb p 0 || ltb d.k p) NotPlaced i _ _ (rw (ne_eqb p 0 (omega arith), le-ltb d.k p z.high))
    (goes_to (not (elem p d.boundary)) Covered i _ _ (ap not z.on)
    (entries-good d (suc i) es (λ j c. h (suc j) (omega arith))))

-- an element of a list stands in it
elem_at : (l : List ℕ) (i : ℕ) → i < length l → elem (get_or l i 0) l ≡ true
elem_at [] i h = absurd (omega arith)
elem_at (q ∷ l) zero h = rw (eq-eqb q q refl)
elem_at (q ∷ l) (suc i) h = rw (elem_at l i (omega arith)) (or-true (eqb (get_or l i 0) q))

-- 9 passes where point n's run is as long as the boundary
whole_good : (k n j m : ℕ) → (suc k ≡ n → j ≡ m) → (eqb (k + 1) n && not (eqb j m)) ≡ false
whole_good k n j m h = go (eqb (k + 1) n) refl
  where
    go : (b : Bool) → eqb (k + 1) n ≡ b → (b && not (eqb j m)) ≡ false
    go true e = ap not (eq-eqb j m (h (omega (arith, eqb-true (k + 1) n e))))
    go false e = refl

-- boundary points are placed points, there is room, and point n's run is the whole boundary
module _ (d : Drawing) (es : List Entry) (low : (i : ℕ) → i < m d → (0 < w d i) × (w d i ≤ d.k)) (room : d.k < d.n) (whole : suc d.k ≡ d.n → length es ≡ m d) where
  -- a point of the run stands
  stands : {l r : ℕ} → IsRun d es l r → (j : ℕ) → j < length (points_of es) → Stands d (get_or (points_of es) j 0)
  stands {l} {r} t j b =
      let e = t.point j (omega (arith, length-points es)) in
      let z = low (l + j) (omega (arith, length-points es)) in
      rw e (record { low = z.0; high = z.1; on = elem_at d.boundary (l + j) (omega (arith, length-points es)) })

  -- the run is the front of the boundary's rest
  along : {l r : ℕ} → IsRun d es l r → run_tests 0 (drop l d.boundary) (points_of es) ≡ good tt
  along {l} {r} t =
      run-good 0 (drop l d.boundary) (points_of es) (omega (arith, length-points es, length-drop l d.boundary))
      (λ j b. t.point j (omega (arith, length-points es)) ∙ sym (get_or-drop l d.boundary j 0))

  -- every test passes
  judge-good : IsRun d es (l_of d (points_of es)) (r_of d (points_of es)) → all_reached d es (l_of d (points_of es)) (r_of d (points_of es)) ≡ true → judge d (map Given es) ≡ good tt
  unfolding all_reached
  judge-good t reach =
      let run = points_of es in
      let rs = map Given es in
      judge_of d rs run (points-given es) ∙
      then_to (call_tests d rs) _ _
      (tests_of d rs run (points-given es) ∙
      goes_to (leb d.n d.k) Finished 0 _ _ (lt-leb d.n d.k room)
      (goes_to (ltb (length run) 2) FewEntries 0 _ _ (le-ltb (length run) 2 (omega (arith, length-points es)))
      (then_to (entry_tests d 0 rs) _ _ (entries-good d 0 es (stands t))
      (then_to (run_tests 0 (drop (l_of d run) d.boundary) run) _ _ (along t)
      (ap (λ b. refuse_if b NotWhole 0) (whole_good d.k d.n (length run) (m d) (λ e. length-points es ∙ whole e)))))))
      (ap (λ b. refuse_if (not b) NoReach 0) reach)

  -- the call is accepted, where its first entry stands at l and nowhere before
  pub accepts : (l r : ℕ) → IsRun d es l r → l_of d (points_of es) ≡ l → all_reached d es l r ≡ true → add_entries d es ≡ good (next d es l r)
  unfolding placed_new next
  accepts l r t el reach = subst₂ Accepts el (omega (arith, length-points es)) at_own t reach
    where
      Accepts : ℕ → ℕ → Type 0
      Accepts l r = IsRun d es l r → all_reached d es l r ≡ true → add_entries d es ≡ good (next d es l r)

      at_own : Accepts (l_of d (points_of es)) (r_of d (points_of es))
      at_own t reach = adding d es ∙ then_to (judge d (map Given es)) _ _ (judge-good t reach) refl
