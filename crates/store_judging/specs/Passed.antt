-- What the entries of a call that these tests accept are known to be, and 13, 6 and 7 entry by entry.
use Rattle.std.specs.Prelude.{ℕ, zero, suc, ◌+◌, ◌<◌, ◌≤◌, ◌≡◌, refl, Bool, true, false, not, ◌||◌, List, [], ◌∷◌, length, get_or, drop, ltb, eqb}
use Rattle.std.proofs.Common.{sym, ◌∙◌, le_trans, pos_of_ne-zero, add-one, arith, drop-cons, ltb-false}
use Rattle.std.proofs.lemmas.Bool.{eqb-false}
use Rattle.std.specs.Prelude.{Ok, Err}
use Rattle.rules.specs.declared.Refused.{Refused}
use Rattle.rules.specs.declared.Refusal.TheVariants.{BothMarks, NotPlaced, Covered}
use Rattle.rules.specs.Refusals.{Answer, Result, good, refused, ◌>>◌, refuse_if, answer}
use Rattle.rules.specs.Bools.{neither}
use Rattle.rules.specs.Results.{accepted, refusing, tested}
use Rattle.rules.specs.Entries.{read_entry, is_both}
use Rattle.store_links.specs.Arrays.{at_point}
use Rattle.store_links.specs.Judging.{point_in, entries_pass}
use Rattle.store_links.specs.Placing.{entry_point}
use Rattle.store_links.specs.Runs.{Within}

-- one more entry whose point is placed
within_more : (k e : ℕ) (es : List ℕ) → 0 < point_in e → point_in e ≤ k → Within k es → Within k (e ∷ es)
within_more k e es above below rest = record { low = low; high = high }
  where
    low : (i : ℕ) → i < length (e ∷ es) → 0 < entry_point (e ∷ es) i
    low zero h = above
    low (suc i) h = rest.low i (omega arith)

    high : (i : ℕ) → i < length (e ∷ es) → entry_point (e ∷ es) i ≤ k
    high zero h = below
    high (suc i) h = rest.high i (omega arith)

-- entries that pass 13, 6 and 7 are placed
pub entries-within : (owner : List ℕ) (k i : ℕ) (es : List ℕ) → entries_pass owner k i es ≡ good tt → Within k es
entries-within owner k i [] h = record { low = λ j l. absurd (omega arith); high = λ j l. absurd (omega arith) }
entries-within owner k i (e ∷ es) h =
    let thirteen = tested (is_both (read_entry e)) BothMarks i _ tt h in
    let six = tested (eqb (point_in e) 0 || ltb k (point_in e)) NotPlaced i _ tt thirteen.last in
    let seven = tested (not (eqb (at_point owner (point_in e)) 0)) Covered i _ tt six.last in
    let t = neither (eqb (point_in e) 0) (ltb k (point_in e)) six.passed in
    within_more k e es (pos_of_ne-zero (eqb-false (point_in e) 0 t.0)) (ltb-false k (point_in e) t.1)
    (entries-within owner k (suc i) es seven.last)

-- among more points too
pub within_up : (k l : ℕ) (es : List ℕ) → k ≤ l → Within k es → Within l es
within_up k l es h w = record { low = w.low; high = λ i b. le_trans (w.high i b) h }

-- ---- a loop over the entries, at entry i

-- the tests of one entry, then those of the entries behind it
entry-then : (owner : List ℕ) (k i e : ℕ) (es : List ℕ) → entries_pass owner k i (e ∷ es) ≡ (entries_pass owner k i (e ∷ []) >> entries_pass owner k (suc i) es)
entry-then owner k i e es = go (is_both (read_entry e)) (eqb (point_in e) 0 || ltb k (point_in e)) (not (eqb (at_point owner (point_in e)) 0)) (entries_pass owner k (suc i) es)
  where
    go : (o a b : Bool) (rest : Result (Unit {0})) →
        (refuse_if o BothMarks i >> (refuse_if a NotPlaced i >> (refuse_if b Covered i >> rest))) ≡ ((refuse_if o BothMarks i >> (refuse_if a NotPlaced i >> (refuse_if b Covered i >> good (tt {0})))) >> rest)
    go true a b rest = refl
    go false true b rest = refl
    go false false true rest = refl
    go false false false rest = refl

module _ (owner es : List ℕ) (k i w : ℕ) (more : i < length es) (is : w ≡ get_or es i 0) {said : Answer (Unit {0})} (answers : said ≡ answer (entries_pass owner k i (w ∷ []))) where
  turn : entries_pass owner k i (drop i es) ≡ (entries_pass owner k i (w ∷ []) >> entries_pass owner k (i + 1) (drop (i + 1) es))
  turn = rw (drop-cons es i 0 more, ← is, add-one) (entry-then owner k i w (drop (suc i) es))

  pub entry-refused : (f : Refused) → said ≡ Err f → entries_pass owner k i (drop i es) ≡ refused f.refusal f.place
  entry-refused f h = turn ∙ rw (refusing (entries_pass owner k i (w ∷ [])) f (sym answers ∙ h))

  pub entry_passed : said ≡ Ok tt → entries_pass owner k i (drop i es) ≡ entries_pass owner k (i + 1) (drop (i + 1) es)
  entry_passed h = turn ∙ rw (accepted (entries_pass owner k i (w ∷ [])) (sym answers ∙ h)).is
