-- The tests before 25 (21, 5, 13, 6, 7, 8, 9) on owners and links are those of the rules, and what the entries of a call that passes them are known to be.
use Rattle.std.specs.Prelude.{ℕ, zero, suc, pred, ◌+◌, ◌<◌, ◌≤◌, ◌≡◌, refl, Bool, true, false, ◌&&◌, ◌||◌, List, [], ◌∷◌, map, length, drop, leb, ltb, eqb, if◌then◌else◌}
use Rattle.std.proofs.Math.Path.{sym}
use Rattle.std.proofs.Common.{ap, ap₂, ◌∙◌, arith, drop_of_length-le, drop-cons, ltb-true, ltb-false, eqb-true, lt-ltb, eq-eqb, ne_eqb}
use Rattle.std.proofs.Math.Bool.{not}
use Rattle.std.proofs.Math.Decide.{dec_lt}
use Rattle.std.proofs.Math.Dec.{leb-suc-suc}
use Rattle.std.proofs.lemmas.Bool.{eqb-false, not-false}
use Rattle.rules.specs.declared.Refusal.TheVariants.{Finished, FewEntries, BothMarks, NotPlaced, Covered, NoRun, NotWhole}
use Rattle.rules.specs.Basics.{elem, index_of}
use Rattle.rules.specs.Refusals.{good, ◌>>◌, refuse_if}
use Rattle.rules.specs.Bools.{neither}
use Rattle.rules.specs.Results.{test_false, tested, then_same}
use Rattle.rules.proofs.Lengths.{length-call}
use Rattle.rules.specs.Entries.{read_entry, is_both}
use Rattle.rules.specs.Readings.{entry_of}
use Rattle.rules.proofs.Readings.{point_is, points_read_lem, tests_of}
use Rattle.rules.specs.Points.{Drawing, owner_of, w, m}
use Rattle.rules.specs.Moving.{column}
use Rattle.rules.specs.Adding.{l_of, points_of, entry_tests, run_tests, call_tests}
use Rattle.store_links.specs.declared.Counts.{Counts}
use Rattle.store_links.specs.Arrays.{Arrays, Stores, at_point}
use Rattle.store_links.specs.Judging.{point_in, entries_pass, links_pass, run_passes, passes}
use Rattle.store_links.specs.Placing.{entry_point}
use Rattle.store_links.specs.Runs.{Within, Distinct}
use Rattle.promise.specs.Sound.{Sound}
use Rattle.promise.specs.Next.{IsRun}
use Rattle.rules.specs.Indices.{index_at}
use Rattle.promise.specs.Climb.{climb-root}
use Rattle.store_laws.specs.Reading.{owner_at, entry_is, run-size, run-low}

-- ---- 7: a placed point stands on the boundary exactly where nobody owns it

-- A point stands in a list where its index is one of the list's.
elem-index : (p : ℕ) (b : List ℕ) → elem p b ≡ ltb (index_of p b) (length b)
elem-index p [] = refl
elem-index p (x ∷ b) = go (eqb p x) refl (elem-index p b)
  where
    go : (t : Bool) → eqb p x ≡ t → elem p b ≡ ltb (index_of p b) (length b) → (t || elem p b) ≡ ltb (if t then 0 else suc (index_of p b)) (suc (length b))
    go true e ih = sym (lt-ltb 0 (suc (length b)) (omega arith))
    go false e ih = ih ∙ sym (leb-suc-suc (suc (index_of p b)) (length b))

module _ {d : Drawing} (s : Sound d) where
  -- A point that nobody owns has its own column, which is a boundary index.
  free_on : (p : ℕ) → suc p ≤ d.k → owner_of d (suc p) ≡ 0 → index_of (suc p) d.boundary < m d
  free_on p h e = omega (arith, ap (λ (q : ℕ). index_of q d.boundary) (climb-root d.owners d.k p e), s.core.points.cols p h)

  -- So being on the boundary is a test of the owner.
  elem-owner : (p : ℕ) → suc p ≤ d.k → elem (suc p) d.boundary ≡ eqb (owner_of d (suc p)) 0
  elem-owner p h = elem-index (suc p) d.boundary ∙ go (ltb (index_of (suc p) d.boundary) (m d)) refl
    where
      go : (t : Bool) → ltb (index_of (suc p) d.boundary) (m d) ≡ t → t ≡ eqb (owner_of d (suc p)) 0
      go true e = sym (eq-eqb (owner_of d (suc p)) 0 (s.rooted.free p (ltb-true _ _ e)))
      go false e = sym (ne_eqb (owner_of d (suc p)) 0 (λ f. omega (arith, free_on p h f, ltb-false (index_of (suc p) d.boundary) (m d) e)))

-- point p is placed, and nobody owns it
record Stands (owner : List ℕ) (k p : ℕ) : Type 0 where
  low : 0 < p
  high : p ≤ k
  free : at_point owner p ≡ 0

-- Where 6 is false, the point is placed.
placed_test : (k p : ℕ) → (eqb p 0 || ltb k p) ≡ false → (0 < p) × (p ≤ k)
placed_test k p h =
    let t = neither (eqb p 0) (ltb k p) h in
    let n : ¬ (p ≡ 0) = eqb-false p 0 t.0 in
    (omega arith, ltb-false k p t.1)

-- 13, 6 and 7 passed for every entry.
entries_stand : (owner : List ℕ) (k i : ℕ) (es : List ℕ) → entries_pass owner k i es ≡ good tt → (j : ℕ) → j < length es → Stands owner k (entry_point es j)
entries_stand owner k i [] h j b = absurd (omega arith)
entries_stand owner k i (e ∷ es) h j b =
    let h13 = tested (is_both (read_entry e)) BothMarks i _ tt h in
    let h6 = tested (eqb (point_in e) 0 || ltb k (point_in e)) NotPlaced i _ tt h13.last in
    let h7 = tested (not (eqb (at_point owner (point_in e)) 0)) Covered i _ tt h6.last in
    go j b (placed_test k (point_in e) h6.passed) (eqb-true (at_point owner (point_in e)) 0 (not-false _ h7.passed))
    (entries_stand owner k (suc i) es h7.last)
  where
    go : (j : ℕ) → j < length (e ∷ es) → (0 < point_in e) × (point_in e ≤ k) → at_point owner (point_in e) ≡ 0 → ((j : ℕ) → j < length es → Stands owner k (entry_point es j)) →
        Stands owner k (entry_point (e ∷ es) j)
    go zero b p f ih = record { low = p.0; high = p.1; free = f }
    go (suc j) b p f ih = ih j (omega arith)

module _ {d : Drawing} {a : Arrays} {c : Counts} (t : Stores d a c) (s : Sound d) where
  -- 7 of a placed point.
  covered_same : (p : ℕ) → 0 < p → p ≤ d.k → eqb (at_point a.owner p) 0 ≡ elem p d.boundary
  covered_same zero low high = absurd (omega arith)
  covered_same (suc p) low high = ap (λ o. eqb o 0) (owner_at t (suc p) low high) ∙ sym (elem-owner s p high)

  -- 13, 6 and 7, entry by entry.
  pub entries_same : (i : ℕ) (es : List ℕ) → entries_pass a.owner c.k i es ≡ entry_tests d i (map read_entry es)
  entries_same i [] = refl
  entries_same i (e ∷ es) =
      let p = point_in e in
      then_same (refuse_if (is_both (read_entry e)) BothMarks i) (refuse_if (is_both (read_entry e)) BothMarks i) _ _ refl
      (λ h13. rw (point_is e)
      (then_same (refuse_if (eqb p 0 || ltb c.k p) NotPlaced i) (refuse_if (eqb p 0 || ltb d.k p) NotPlaced i) _ _
      (ap (λ k. refuse_if (eqb p 0 || ltb k p) NotPlaced i) t.k)
      (λ h. let b = placed_test c.k p (test_false _ NotPlaced i h) in
      then_same (refuse_if (not (eqb (at_point a.owner p) 0)) Covered i) (refuse_if (not (elem p d.boundary)) Covered i) _ _
      (ap (λ u. refuse_if (not u) Covered i) (covered_same p b.0 (omega (arith, t.k))))
      (λ h'. entries_same (suc i) es))))

  -- ---- 8: the links go along the boundary

  -- the link of a boundary point that isn't the last
  link_is : (j : ℕ) → suc j < m d → drop (suc j) d.boundary ≡ at_point a.next (w d j) ∷ drop (suc (suc j)) d.boundary
  link_is j h = drop-cons d.boundary (suc j) 0 h ∙ ap (λ p. p ∷ drop (suc (suc j)) d.boundary) (sym (t.link j h))

  -- The last boundary point is point 2, and its link is 0.
  link_last : (j : ℕ) → suc j ≡ m d → at_point a.next (w d j) ≡ 0
  link_last j h =
      let one : pred (w d j) ≡ 1 = s.core.corners.last j h in
      let two : w d j ≡ 2 = omega arith in
      ap (at_point a.next) two ∙ t.last

  -- Entries behind boundary point j, one after the other.
  links_same : (i j : ℕ) (es : List ℕ) → j < m d → ((n : ℕ) → n < length es → 0 < entry_point es n) →
      links_pass a.next i (w d j) es ≡ run_tests i (drop (suc j) d.boundary) (points_of (map entry_of es))
  links_same i j [] h g = refl
  links_same i j (e ∷ es) h g =
      elim (dec_lt (suc j) (m d)) [
        | yes b ↦ inside b (λ f. links_same (suc i) (suc j) es b f)
        | no b ↦ outside (omega arith)
      ]
    where
      ps : List ℕ
      ps = points_of (map entry_of es)

      inside : (b : suc j < m d) → (((n : ℕ) → n < length es → 0 < entry_point es n) → links_pass a.next (suc i) (w d (suc j)) es ≡ run_tests (suc i) (drop (suc (suc j)) d.boundary) ps) →
          links_pass a.next i (w d j) (e ∷ es) ≡ run_tests i (drop (suc j) d.boundary) (point_in e ∷ ps)
      inside b ih =
          then_same (refuse_if (not (eqb (point_in e) (at_point a.next (w d j)))) NoRun i) (refuse_if (not (eqb (point_in e) (at_point a.next (w d j)))) NoRun i) _ _ refl
          (λ k.
          let p : point_in e ≡ w d (suc j) = eqb-true _ _ (not-false _ (test_false _ NoRun i k)) ∙ t.link j b in
          ap (λ q. links_pass a.next (suc i) q es) p ∙ ih (λ n f. g (suc n) (omega arith))) ∙
          ap (λ ws. run_tests i ws (point_in e ∷ ps)) (sym (link_is j b))

      outside : suc j ≡ m d → links_pass a.next i (w d j) (e ∷ es) ≡ run_tests i (drop (suc j) d.boundary) (point_in e ∷ ps)
      outside b =
          ap (λ u. refuse_if (not u) NoRun i >> links_pass a.next (suc i) (point_in e) es)
          (ne_eqb (point_in e) (at_point a.next (w d j)) (λ f. omega (arith, f, link_last j b, g 0 (omega arith)))) ∙
          sym (ap (λ ws. run_tests i ws (point_in e ∷ ps)) (drop_of_length-le d.boundary {i = suc j} (omega arith)))

  -- 8 of entries that passed 13, 6 and 7: the first one always matches itself.
  run_same : (es : List ℕ) → ((n : ℕ) → n < length es → Stands a.owner d.k (entry_point es n)) →
      run_passes a.next es ≡ run_tests 0 (drop (l_of d (points_of (map entry_of es))) d.boundary) (points_of (map entry_of es))
  run_same [] g = refl
  run_same (e ∷ es) g =
      ap (λ p. links_pass a.next 1 p es) (sym at_l) ∙ links_same 1 l es in_l (λ n h. (g (suc n) (omega arith)).low) ∙
      sym (ap (λ ws. run_tests 0 ws (point_in e ∷ ps)) front ∙ ap (λ u. refuse_if (not u) NoRun 0 >> run_tests 1 (drop (suc l) d.boundary) ps) (eq-eqb (point_in e) (w d l) (sym at_l)))
    where
      ps : List ℕ
      ps = points_of (map entry_of es)

      l : ℕ
      l = index_of (point_in e) d.boundary

      in_l : l < m d
      in_l =
          let b = g 0 (omega arith) in
          ltb-true l (m d) (sym (elem-index (point_in e) d.boundary) ∙ sym (covered_same (point_in e) b.low b.high) ∙ eq-eqb (at_point a.owner (point_in e)) 0 b.free)

      at_l : w d l ≡ point_in e
      at_l = index_at (point_in e) d.boundary in_l

      front : drop l d.boundary ≡ w d l ∷ drop (suc l) d.boundary
      front = drop-cons d.boundary l 0 in_l

  -- The tests on owners and links are those of the rules before 25.
  pub passes_is : (es : List ℕ) → passes a.owner a.next c.n c.k c.m es ≡ call_tests d (map read_entry es)
  unfolding passes
  passes_is es =
      let run = points_of (map entry_of es) in
      then_same (refuse_if (leb c.n c.k) Finished 0) _ _ _ (ap₂ (λ n k. refuse_if (leb n k) Finished 0) t.n t.k)
      (λ h21. then_same (refuse_if (ltb (length es) 2) FewEntries 0) _ _ _ (ap (λ n. refuse_if (ltb n 2) FewEntries 0) (sym (length-call es)))
      (λ h5. then_same (entries_pass a.owner c.k 0 es) _ _ _ (entries_same 0 es)
      (λ h6. then_same (run_passes a.next es) _ _ _ (run_same es (λ n b. rw (← t.k) (entries_stand a.owner c.k 0 es h6 n b)))
      (λ h8. whole_same (length es) (length run) (sym (length-call es)))))) ∙
      sym (tests_of d (map read_entry es) run (points_read_lem es))
    where
      whole_same : (j j' : ℕ) → j ≡ j' → refuse_if (eqb (c.k + 1) c.n && not (eqb j c.m)) NotWhole 0 ≡ refuse_if (eqb (d.k + 1) d.n && not (eqb j' (m d))) NotWhole 0
      whole_same j j' e = cc (t.k, t.n, t.m)

-- ---- the entries of a run

-- The entries of a run are placed.
pub run-within : {d : Drawing} (es : List ℕ) {l r : ℕ} → Sound d → IsRun d (map entry_of es) l r → Within d.k es
run-within {d} es {l} {r} s q = record { low = λ i b. (placed i b).0; high = λ i b. (placed i b).1 }
  where
    placed : (i : ℕ) → i < length es → (0 < entry_point es i) × (entry_point es i ≤ d.k)
    placed i b =
        let h : l + i ≤ r = omega (arith, run-size es q) in
        rw (entry_is es q i h) (run-low es s q (l + i) h)

-- No point stands twice in a run: boundary points have columns of their own.
pub run-distinct : {d : Drawing} (es : List ℕ) {l r : ℕ} → Sound d → IsRun d (map entry_of es) l r → Distinct es
run-distinct {d} es {l} {r} s q =
    record {
      differ =
          λ i j ij jb e.
          let hi : l + i ≤ r = omega (arith, run-size es q) in
          let hj : l + j ≤ r = omega (arith, run-size es q) in
          omega (
            arith,
            ap (λ p. column d (suc (pred p))) (sym (entry_is es q i hi) ∙ e ∙ entry_is es q j hj),
            column_is (l + i) hi,
            column_is (l + j) hj,
          );
    }
  where
    column_is : (i : ℕ) → i ≤ r → column d (suc (pred (w d i))) ≡ i
    column_is i h = (s.core.points.on i (omega (arith, q.rm))).1
