-- A call with more entries than the boundary has points: 21, then entry by entry 13, 6, 7, then 8.
use Rattle.std.specs.Prelude.{ℕ, suc, ◌<◌, ◌≤◌, ◌≡◌, refl, Bool, true, false, not, List, [], ◌∷◌, map, length, drop, eqb}
use Rattle.std.proofs.Common.{sym, ◌∙◌, arith, length-drop, le-leb, le-ltb}
use Rattle.std.proofs.lemmas.List.{length-map}
use Rattle.std.proofs.lemmas.Bool.{lt-leb}
use Rattle.rules.specs.declared.Refusal.{Refusal}
use Rattle.rules.specs.declared.Refusal.TheVariants.{Finished, NoRun}
use Rattle.rules.specs.Refusals.{good, refused, ◌>>◌, refuse_if}
use Rattle.rules.specs.Entries.{read_entry, point_read, points_read}
use Rattle.rules.specs.Points.{Drawing}
use Rattle.rules.specs.Adding.{l_of, run_tests, call_tests, judge, add_read, add}
use Rattle.store_links.specs.declared.Counts.{Counts}
use Rattle.store_links.specs.Arrays.{Arrays}
use Rattle.store_links.specs.Judging.{entries_pass}
use Rattle.store_laws.specs.Tests.{entries_same}
use Rattle.store_laws.specs.Adding.{Holds}
use Rattle.read_long.specs.Long.{RefusedBy}

-- 8: entries that are more than the points beside them
run_long : (i : ℕ) (ws run : List ℕ) → length ws < length run → RefusedBy (run_tests i ws run) NoRun
run_long i ws [] h = absurd (omega arith)
run_long i [] (p ∷ run) h = record { place = i; is = refl }
run_long i (q ∷ ws) (p ∷ run) h = go (eqb p q) (run_long (suc i) ws run (omega arith))
  where
    go : (b : Bool) → RefusedBy (run_tests (suc i) ws run) NoRun → RefusedBy (refuse_if (not b) NoRun i >> run_tests (suc i) ws run) NoRun
    go true r = r
    go false r = record { place = i; is = refl }

module _ {d : Drawing} {a : Arrays} {c : Counts} (h : Holds d a c) (es : List ℕ) (many : 1024 < length es) where
  -- 21
  pub long-finished : c.n ≤ c.k → RefusedBy (add d es) Finished
  unfolding add_read judge call_tests
  long-finished l = record { place = 0; is = rw (le-leb d.n d.k (omega (arith, h.stores.n, h.stores.k))) }

  module _ (room : c.k < c.n) where
    abbrev run : List ℕ
    run = points_read (map read_entry es)

    run_length : length run ≡ length es
    run_length = length-map (map read_entry es) point_read ∙ length-map es read_entry

    -- 13, 6 or 7
    pub long-entry : (r : Refusal) (p : ℕ) → entries_pass a.owner c.k 0 es ≡ refused r p → RefusedBy (add d es) r
    unfolding add_read judge call_tests
    long-entry r p q =
        record {
          place = p;
          is =
              rw (
                lt-leb d.n d.k (omega (arith, h.stores.n, h.stores.k)),
                le-ltb (length run) 2 (omega (arith, run_length)),
                sym (entries_same h.stores h.standing.sound 0 es) ∙ q,
              );
        }

    -- 8
    pub long-run : entries_pass a.owner c.k 0 es ≡ good tt → RefusedBy (add d es) NoRun
    unfolding add_read judge call_tests
    long-run q =
        let l = drop (l_of d run) d.boundary in
        let b = run_long 0 l run (omega (arith, run_length, length-drop (l_of d run) d.boundary, h.standing.ranged.border)) in
        record {
          place = b.place;
          is =
              rw (
                lt-leb d.n d.k (omega (arith, h.stores.n, h.stores.k)),
                le-ltb (length run) 2 (omega (arith, run_length)),
                sym (entries_same h.stores h.standing.sound 0 es) ∙ q,
                b.is,
              );
        }
