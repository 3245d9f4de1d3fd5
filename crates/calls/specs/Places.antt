-- A call's place is no more than the number of its entries, so it fits 16 bits where the entries were counted by 16.
use Rattle.std.specs.Prelude.{ℕ, suc, ◌+◌, ◌≤◌, Bool, true, false, not, ◌&&◌, ◌||◌, List, [], ◌∷◌, length, leb, ltb, eqb}
use Rattle.std.proofs.Common.{arith}
use Rattle.rules.specs.declared.Refusal.{Refusal}
use Rattle.rules.specs.declared.Refusal.TheVariants.{Finished, FewEntries, BothMarks, NotPlaced, Covered, NoRun, NotWhole, NoReach}
use Rattle.rules.specs.Refusals.{Result, good, refused, answer, ◌>>◌, refuse_if}
use Rattle.rules.specs.Styles.{reach_passes}
use Rattle.rules.specs.Entries.{read_entry, is_both}
use Rattle.store_links.specs.declared.Counts.{Counts}
use Rattle.store_links.specs.Arrays.{Arrays, at_point}
use Rattle.store_links.specs.Judging.{point_in, entries_pass, links_pass, run_passes, passes}
use Rattle.store_links.specs.Placing.{all_reach_from, inner_count}
use Rattle.store_links.specs.Storing.{judged, spot_for}
use Rattle.calls_words.specs.Lists.{place_in}

-- where a test refuses, it does so at a place up to `most`
record Within (most : ℕ) (r : Result (Unit {0})) : Type 0 where
  place : place_in (answer r) ≤ most

-- One test after another.
then : {most : ℕ} {r s : Result (Unit {0})} → Within most r → Within most s → Within most (r >> s)
then {most} {r} {s} hr hs = go r hr
  where
    go : (r : Result (Unit {0})) → Within most r → Within most (r >> s)
    go (good t) h = hs
    go (refused why p) h = record { place = h.place }

-- One test.
one : {most : ℕ} (t : Bool) (why : Refusal) (p : ℕ) → p ≤ most → Within most (refuse_if t why p)
one true why p h = record { place = h }
one false why p h = record { place = omega arith }

passed : {most : ℕ} → Within most (good tt)
passed = record { place = omega arith }

entries-within : (most : ℕ) (owner : List ℕ) (k i : ℕ) (es : List ℕ) → i + length es ≤ most → Within most (entries_pass owner k i es)
entries-within most owner k i [] h = passed
entries-within most owner k i (e ∷ es) h =
    then (one (is_both (read_entry e)) BothMarks i (omega arith))
    (then (one (eqb (point_in e) 0 || ltb k (point_in e)) NotPlaced i (omega arith))
    (then (one (not (eqb (at_point owner (point_in e)) 0)) Covered i (omega arith)) (entries-within most owner k (suc i) es (omega arith))))

links-within : (most : ℕ) (next : List ℕ) (i p : ℕ) (es : List ℕ) → i + length es ≤ most → Within most (links_pass next i p es)
links-within most next i p [] h = passed
links-within most next i p (e ∷ es) h = then (one (not (eqb (point_in e) (at_point next p))) NoRun i (omega arith)) (links-within most next (suc i) (point_in e) es (omega arith))

run-within : (next es : List ℕ) → Within (length es) (run_passes next es)
run-within next [] = passed
run-within next (e ∷ es) = links-within (suc (length es)) next 1 (point_in e) es (omega arith)

passes-within : (owner next : List ℕ) (n k m : ℕ) (es : List ℕ) → Within (length es) (passes owner next n k m es)
unfolding passes
passes-within owner next n k m es =
    then (one (leb n k) Finished 0 (omega arith))
    (then (one (ltb (length es) 2) FewEntries 0 (omega arith))
    (then (entries-within (length es) owner k 0 es (omega arith))
    (then (run-within next es) (one (eqb (k + 1) n && not (eqb (length es) m)) NotWhole 0 (omega arith)))))

judged-within : (a : Arrays) (c : Counts) (es : List ℕ) → Within (length es) (judged a c es)
unfolding judged
judged-within a c es =
    then (passes-within a.owner a.next c.n c.k c.m es)
    (one (not (reach_passes c.style (all_reach_from (spot_for c.style a es) a.gap a.ys es 1 (inner_count es)))) NoReach 0 (omega arith))

-- The place of a call's answer.
pub place_most : (a : Arrays) (c : Counts) (es : List ℕ) → place_in (answer (judged a c es)) ≤ length es
place_most a c es = (judged-within a c es).place
