-- The tests of an adding call that need no new places, on owners and links: 21, 5, then entry by entry 13, 6, 7, then 8, 9.
use Rattle.std.specs.Prelude.{ℕ, suc, ◌+◌, not, ◌&&◌, ◌||◌, List, [], ◌∷◌, length, leb, ltb, eqb}
use Rattle.rules.specs.declared.Refusal.TheVariants.{Finished, FewEntries, BothMarks, NotPlaced, Covered, NoRun, NotWhole}
use Rattle.rules.specs.Refusals.{Result, good, ◌>>◌, refuse_if}
use Rattle.rules.specs.Entries.{read_entry, is_both}
use Rattle.rules.specs.Readings.{entry_of}
use Rattle.store_links.specs.Arrays.{at_point}

-- the earlier point of an entry
abbrev pub point_in : ℕ → ℕ
point_in e = (entry_of e).point

-- entries i, i + 1, ..: not marked both, placed, and owned by nobody
abbrev pub entries_pass : List ℕ → ℕ → ℕ → List ℕ → Result (Unit {0})
entries_pass owner k i [] = good tt
entries_pass owner k i (e ∷ es) = do
  refuse_if (is_both (read_entry e)) BothMarks i
  refuse_if (eqb (point_in e) 0 || ltb k (point_in e)) NotPlaced i
  refuse_if (not (eqb (at_point owner (point_in e)) 0)) Covered i
  entries_pass owner k (suc i) es

-- entries i, i + 1, .. behind the entry of point p: each is linked from the one before it
abbrev pub links_pass : List ℕ → ℕ → ℕ → List ℕ → Result (Unit {0})
links_pass next i p [] = good tt
links_pass next i p (e ∷ es) = do
  refuse_if (not (eqb (point_in e) (at_point next p))) NoRun i
  links_pass next (suc i) (point_in e) es

abbrev pub run_passes : List ℕ → List ℕ → Result (Unit {0})
run_passes next [] = good tt
run_passes next (e ∷ es) = links_pass next 1 (point_in e) es

unfoldable pub passes : List ℕ → List ℕ → ℕ → ℕ → ℕ → List ℕ → Result (Unit {0})
passes owner next n k m es = do
  refuse_if (leb n k) Finished 0
  refuse_if (ltb (length es) 2) FewEntries 0
  entries_pass owner k 0 es
  run_passes next es
  refuse_if (eqb (k + 1) n && not (eqb (length es) m)) NotWhole 0
