-- The tests of one entry, and one turn of the loop along the links, on lists.
use Rattle.std.specs.Prelude.{ℕ, ◌+◌, ◌-◌, ◌<◌, ◌≡◌, refl, not, ◌||◌, List, [], ◌∷◌, Err, length, get_or, drop, eqb, ltb}
use Rattle.std.proofs.Common.{sym, ap, ◌∙◌, add-one, arith, drop-cons}
use Rattle.rules.specs.declared.Refusal.TheVariants.{BothMarks, NotPlaced, Covered, NoRun}
use Rattle.rules.specs.declared.Entry.{Entry}
use Rattle.rules.specs.declared.Reading.TheVariants.{Given, Both}
use Rattle.rules.specs.Refusals.{refusal_at, Result, good, ◌>>◌, refuse_if, answer}
use Rattle.rules.specs.Entries.{read_entry}
use Rattle.rules.proofs.Readings.{given_is}
use Rattle.store_links.specs.Arrays.{at_point}
use Rattle.store_links.specs.Judging.{point_in, entries_pass, links_pass, run_passes}
use Rattle.store_links.specs.Placing.{entry_point}

-- a list read at point p, by the code's index
at_point_lem : (l : List ℕ) (p : ℕ) → at_point l p ≡ get_or l (p - 1) 0
at_point_lem l p = ap (λ (j : ℕ). get_or l j 0) (omega arith)

-- 6 and 7 of entry i with point p
abbrev pub entry_tests : List ℕ → ℕ → ℕ → ℕ → Result (Unit {0})
entry_tests owner k i p = do
  refuse_if (eqb p 0 || ltb k p) NotPlaced i
  refuse_if (not (eqb (get_or owner (p - 1) 0) 0)) Covered i
  good tt

module _ (owner : List ℕ) (k i e : ℕ) where
  -- it is read as the entry x of that point
  pub entry-given : (x : Entry) (p : ℕ) → read_entry e ≡ Given x → p ≡ x.point → entries_pass owner k i (e ∷ []) ≡ entry_tests owner k i p
  entry-given x p g h =
      let q : point_in e ≡ p = ap (λ (x : Entry). x.point) (sym (given_is e x g)) ∙ sym h in
      rw (g, q, at_point_lem owner p)

  -- 13: it is marked both
  pub entry_both : (q : ℕ) → read_entry e ≡ Both q → Err (refusal_at BothMarks i) ≡ answer (entries_pass owner k i (e ∷ []))
  entry_both q g = rw g

-- 8 of entry i with point q, where point v is next, then the rest
abbrev pub link_first : ℕ → ℕ → ℕ → Result (Unit {0}) → Result (Unit {0})
link_first i q v rest = do
  refuse_if (not (eqb q v)) NoRun i
  rest

pub link-turn : (next es : List ℕ) (i p q v : ℕ) → i < length es → p ≡ entry_point es (i - 1) → q ≡ entry_point es i → v ≡ get_or next (p - 1) 0 →
    links_pass next i (entry_point es (i - 1)) (drop i es) ≡ link_first i q v (links_pass next (i + 1) (entry_point es (i + 1 - 1)) (drop (i + 1) es))
link-turn next es i p q v h hp hq hv =
    let back : i + 1 - 1 ≡ i = omega arith in
    rw (back, drop-cons es i 0 h, ← hp, ← hq, at_point_lem next p, ← hv, add-one)

-- the loop over the links starts at entry 1
pub link_start : (next es : List ℕ) → run_passes next es ≡ links_pass next 1 (entry_point es 0) (drop 1 es)
link_start next [] = refl
link_start next (e ∷ es) = refl
