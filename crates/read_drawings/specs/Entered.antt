-- A call with the numbers that stand for a group's entries is judged as the entries are.
use Rattle.std.specs.Prelude.{ℕ, suc, ◌<◌, ◌≡◌, refl, Bool, true, false, not, ◌||◌, List, [], ◌∷◌, map, length, ltb, eqb, leb}
use Rattle.std.proofs.Math.Path.{ap, sym}
use Rattle.std.proofs.Common.{ap₂, ◌∙◌, arith, ne_eqb, ltb-true, ltb-false, lt-ltb}
use Rattle.std.proofs.lemmas.List.{length-map}
use Rattle.rules.specs.declared.Entry.{Entry}
use Rattle.rules.specs.declared.Reading.{Reading}
use Rattle.rules.specs.declared.Reading.TheVariants.{Given}
use Rattle.rules.specs.declared.Refusal.{Refusal}
use Rattle.rules.specs.declared.Refusal.TheVariants.{Finished, FewEntries, NotPlaced, Covered}
use Rattle.rules.specs.Basics.{elem}
use Rattle.rules.specs.Refusals.{Result, good, refused, ◌>>◌, refuse_if}
use Rattle.rules.specs.Entries.{point_limit, read_entry, point_read, points_read}
use Rattle.rules.specs.Points.{Drawing}
use Rattle.rules.specs.Adding.{entry_tests, call_tests, judge, add_read, add_entries, add}
use Rattle.rules.proofs.RoundTrip.{entry_back}
use Rattle.rules.specs.Results.{tested}
use Rattle.read_groups.specs.Groups.{number_for}

-- an entry, as its number is read back
abbrev read_back : Entry → Reading
read_back e = read_entry (number_for e)

module _ (d : Drawing) (few : d.k < point_limit) where
  -- an entry is refused as what is read back, or is that
  data Alike (e : Entry) : Type 0 where
    equal : read_back e ≡ Given e → Alike e
    absent : (eqb e.point 0 || ltb d.k e.point) ≡ true → read_back e ≡ read_entry 0 → Alike e

  alike : (e : Entry) → Alike e
  alike e = go (ltb e.point point_limit) refl
    where
      go : (t : Bool) → ltb e.point point_limit ≡ t → Alike e
      go true q = equal (rw q (entry_back e (ltb-true e.point point_limit q)))
      go false q = let h = ltb-false e.point point_limit q in absent (rw (ne_eqb e.point 0 (omega arith), lt-ltb d.k e.point (omega arith))) (rw q)

  -- 6 and 7; neither is marked both
  tests-alike : (i : ℕ) (es : List Entry) → entry_tests d i (map Given es) ≡ entry_tests d i (map read_back es)
  tests-alike i [] = refl
  tests-alike i (e ∷ es) = go (alike e) (tests-alike (suc i) es)
    where
      go : Alike e → entry_tests d (suc i) (map Given es) ≡ entry_tests d (suc i) (map read_back es) →
          entry_tests d i (map Given (e ∷ es)) ≡ entry_tests d i (map read_back (e ∷ es))
      go (equal q) t = rw (q, t)
      go (absent q r) t = rw (q, r)

  -- entries that pass read back
  pass_alike : (i : ℕ) (es : List Entry) → entry_tests d i (map Given es) ≡ good tt → map read_back es ≡ map Given es
  pass_alike i [] h = refl
  pass_alike i (e ∷ es) h =
      let six = tested (eqb e.point 0 || ltb d.k e.point) NotPlaced i _ tt h in
      let seven = tested (not (elem e.point d.boundary)) Covered i _ tt six.last in
      go (alike e) six.passed (pass_alike (suc i) es seven.last)
    where
      go : Alike e → (eqb e.point 0 || ltb d.k e.point) ≡ false → map read_back es ≡ map Given es → map read_back (e ∷ es) ≡ map Given (e ∷ es)
      go (equal q) t r = ap₂ (λ (x : Reading) (l : List Reading). x ∷ l) q r
      go (absent q z) t r = absurd (let o : ◌≡◌ {A = ℕ} 0 1 = cc in omega arith)

  -- a refusal is the same, whatever would follow
  refused-alike : {A : Type 0} (a b : Result (Unit {0})) (r : Refusal) (p : ℕ) (u v : Result (Unit {0})) (x y : Result A) →
      let stopped : Result (Unit {0}) = refused r p in
      ((a >> (b >> stopped)) >> u >> x) ≡ ((a >> (b >> stopped)) >> v >> y)
  refused-alike (good t) (good o) r p u v x y = refl
  refused-alike (good t) (refused f q) r p u v x y = refl
  refused-alike (refused f q) b r p u v x y = refl

  as_many : (es : List Entry) → length (points_read (map read_back es)) ≡ length (points_read (map Given es))
  as_many es = length-map (map read_back es) point_read ∙ length-map es read_back ∙ sym (length-map (map Given es) point_read ∙ length-map es Given)

  read_twice : (es : List Entry) → map read_back es ≡ map read_entry (map number_for es)
  read_twice [] = refl
  read_twice (e ∷ es) = ap (λ (l : List Reading). read_back e ∷ l) (read_twice es)

  by_tests : (es : List Entry) (t : Result (Unit {0})) → entry_tests d 0 (map Given es) ≡ t → add_entries d es ≡ add_read d (map read_back es)
  unfolding add_read judge call_tests
  by_tests es (good u) q = ap (add_read d) (sym (pass_alike 0 es q))
  by_tests es (refused r p) q =
      rw (as_many es, q, sym (tests-alike 0 es) ∙ q)
      (refused-alike (refuse_if (leb d.n d.k) Finished 0) (refuse_if (ltb (length (points_read (map Given es))) 2) FewEntries 0) r p _ _ _ _)

  -- a call with the numbers is judged as the entries are
  pub add-alike : (es : List Entry) → add_entries d es ≡ add d (map number_for es)
  add-alike es = by_tests es (entry_tests d 0 (map Given es)) refl ∙ ap (add_read d) (read_twice es)
