-- Laws of reading entries: none of an accepted call's is marked both, so that it has the entries of the three kinds that its numbers say.
use Rattle.std.specs.Prelude.{ℕ, zero, suc, ◌/◌, ◌%◌, ◌≡◌, refl, false, not, ◌||◌, List, [], ◌∷◌, map, length, leb, ltb, eqb}
use Rattle.std.proofs.Common.{sym, ap, ap₂, ◌∙◌, true≢false, arith}
use Rattle.rules.specs.declared.Kind.TheVariants.{Guide}
use Rattle.rules.specs.declared.Entry.{Entry}
use Rattle.rules.specs.declared.Reading.{Reading}
use Rattle.rules.specs.declared.Reading.TheVariants.{Given, Both}
use Rattle.rules.specs.declared.Refusal.TheVariants.{Finished, FewEntries, BothMarks, NotPlaced, Covered}
use Rattle.rules.specs.Basics.{elem, any_of}
use Rattle.rules.specs.Refusals.{good, ◌>>◌}
use Rattle.rules.specs.Bools.{neither}
use Rattle.rules.specs.Results.{followed, both_pass, tested}
use Rattle.rules.specs.Entries.{point_limit, reading, read_entry, is_both, point_read, points_read, given_in}
use Rattle.rules.specs.Points.{Drawing}
use Rattle.rules.specs.Adding.{l_of, r_of, points_of, spread, entry_tests, call_tests, reach_test, judge, placed_new, add_read, add_entries, add}
use Rattle.rules.specs.Readings.{kind_in, entry_of, tests_with}

-- ---- entries, none of them marked both

pub given_back : (es : List Entry) → given_in (map Given es) ≡ es
given_back [] = refl
given_back (e ∷ es) = ap (λ l. e ∷ l) (given_back es)

pub points-given : (es : List Entry) → points_read (map Given es) ≡ points_of es
points-given [] = refl
points-given (e ∷ es) = ap (λ l. e.point ∷ l) (points-given es)

pub given_one : (es : List Entry) → any_of is_both (map Given es) ≡ false
given_one [] = refl
given_one (e ∷ es) = given_one es

-- The point of a reading is that of the number.
point_read_lem : (p b : ℕ) → point_read (reading p b) ≡ p
point_read_lem p zero = refl
point_read_lem p (suc zero) = refl
point_read_lem p (suc (suc zero)) = refl
point_read_lem p (suc (suc (suc b))) = refl

pub points_read_lem : (ws : List ℕ) → points_read (map read_entry ws) ≡ points_of (map entry_of ws)
points_read_lem [] = refl
points_read_lem (w ∷ ws) = ap₂ (λ (p : ℕ) (l : List ℕ). p ∷ l) (point_read_lem (w % point_limit) (w / point_limit)) (points_read_lem ws)

pub point_is : (w : ℕ) → point_read (read_entry w) ≡ (entry_of w).point
point_is w = point_read_lem (w % point_limit) (w / point_limit)

-- Not marked both, it is the entry.
pub entry_read : (w : ℕ) → is_both (read_entry w) ≡ false → read_entry w ≡ Given (entry_of w)
entry_read w h = go (w % point_limit) (w / point_limit) h
  where
    go : (p b : ℕ) → is_both (reading p b) ≡ false → reading p b ≡ Given (record { point = p; kind = kind_in b })
    go p zero h = refl
    go p (suc zero) h = refl
    go p (suc (suc zero)) h = refl
    go p (suc (suc (suc b))) h = absurd (true≢false h)

-- an entry that is given is the one without the test
pub given_is : (e : ℕ) (x : Entry) → read_entry e ≡ Given x → x ≡ entry_of e
given_is e x h = go (e % point_limit) (e / point_limit) h
  where
    go : (p b : ℕ) → reading p b ≡ Given x → x ≡ record { point = p; kind = kind_in b }
    go p zero h = cc
    go p (suc zero) h = cc
    go p (suc (suc zero)) h = cc
    go p (suc (suc (suc b))) h = absurd (let z : ◌≡◌ {A = ℕ} 0 1 = cc in omega arith)

pub both_is : (e p : ℕ) → read_entry e ≡ Both p → ◌≡◌ {A = Entry} (record { point = p; kind = Guide }) (entry_of e)
both_is e p h = go (e % point_limit) (e / point_limit) h
  where
    go : (q b : ℕ) → reading q b ≡ Both p → ◌≡◌ {A = Entry} (record { point = p; kind = Guide }) (record { point = q; kind = kind_in b })
    go q zero h = absurd (let z : ◌≡◌ {A = ℕ} 0 1 = cc in omega arith)
    go q (suc zero) h = absurd (let z : ◌≡◌ {A = ℕ} 0 1 = cc in omega arith)
    go q (suc (suc zero)) h = absurd (let z : ◌≡◌ {A = ℕ} 0 1 = cc in omega arith)
    go q (suc (suc (suc b))) h = cc

pub entries-read : (ws : List ℕ) → any_of is_both (map read_entry ws) ≡ false → map read_entry ws ≡ map Given (map entry_of ws)
entries-read [] h = refl
entries-read (w ∷ ws) h =
    let z = neither (is_both (read_entry w)) (any_of is_both (map read_entry ws)) h in
    ap₂ (λ (r : Reading) (l : List Reading). r ∷ l) (entry_read w z.0) (entries-read ws z.1)

pub words-given : (ws : List ℕ) → any_of is_both (map read_entry ws) ≡ false → given_in (map read_entry ws) ≡ map entry_of ws
words-given ws h = ap given_in (entries-read ws h) ∙ given_back (map entry_of ws)

-- ---- an accepted call

-- 13 passed: no entry is marked both.
pub tests-given : (d : Drawing) (i : ℕ) (rs : List Reading) → entry_tests d i rs ≡ good tt → any_of is_both rs ≡ false
tests-given d i [] h = refl
tests-given d i (r ∷ rs) h =
    let h13 = tested (is_both r) BothMarks i _ tt h in
    let h6 = tested (eqb (point_read r) 0 || ltb d.k (point_read r)) NotPlaced i _ tt h13.last in
    let h7 = tested (not (elem (point_read r) d.boundary)) Covered i _ tt h6.last in
    rw h13.passed (tests-given d (suc i) rs h7.last)

pub calls-given : (d : Drawing) (rs : List Reading) → call_tests d rs ≡ good tt → any_of is_both rs ≡ false
unfolding call_tests
calls-given d rs h =
    let h21 = tested (leb d.n d.k) Finished 0 _ tt h in
    let h5 = tested (ltb (length (points_read rs)) 2) FewEntries 0 _ tt h21.last in
    tests-given d 0 rs (both_pass (entry_tests d 0 rs) _ h5.last).0

pub added-given : (d e : Drawing) (rs : List Reading) → add_read d rs ≡ good e → any_of is_both rs ≡ false
unfolding add_read judge
added-given d e rs h =
    let t = followed (judge d rs) _ e h in
    calls-given d rs (both_pass (call_tests d rs) _ t.first).0

module _ (d : Drawing) (rs : List Reading) (run : List ℕ) (same : points_read rs ≡ run) where
  pub tests_of : call_tests d rs ≡ tests_with d run (entry_tests d 0 rs)
  unfolding call_tests
  tests_of = rw (← same)

  pub judge_of : judge d rs ≡ (call_tests d rs >> reach_test (l_of d run) (r_of d run) (spread (l_of d run) (r_of d run) d) run)
  unfolding judge
  judge_of = rw (← same)

-- Adding entries, none of them marked both.
pub adding : (d : Drawing) (es : List Entry) → add_entries d es ≡ (judge d (map Given es) >> good (placed_new d es (points_of es)))
unfolding add_read
adding d es = rw (given_back es, points-given es)

-- ---- an accepted call of numbers is one of entries

pub add_entries_lem : (d e : Drawing) (call : List ℕ) → add d call ≡ good e → add_entries d (map entry_of call) ≡ good e
add_entries_lem d e call h = ap (add_read d) (sym (entries-read call (added-given d e (map read_entry call) h))) ∙ h
