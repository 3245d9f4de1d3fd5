-- Which test gives the answer of all, from what the tests before it have shown.
use Rattle.std.proofs.Common.{lt-ltb, le-ltb, le-leb, eq-eqb, ne_eqb}
use Rattle.std.proofs.lemmas.Bool.{lt-leb}
use Rattle.std.specs.Prelude.{ℕ, ◌+◌, ◌<◌, ◌≤◌, ◌≡◌, not, ◌&&◌, List, Ok, Err, length, eqb}
use Rattle.rules.specs.declared.Refused.{Refused}
use Rattle.rules.specs.declared.Refusal.TheVariants.{Finished, FewEntries, NotWhole}
use Rattle.rules.specs.Refusals.{refusal_at, refuse_if, answer}
use Rattle.rules.specs.Results.{accepted, stops}
use Rattle.store_links.specs.Judging.{entries_pass, run_passes, passes}

module _ (owner next : List ℕ) (n k m : ℕ) (es : List ℕ) where
  -- 21
  pub finished : n ≤ k → Err (refusal_at Finished 0) ≡ answer (passes owner next n k m es)
  unfolding passes
  finished h = rw (le-leb n k h)

  -- 5
  pub few : k < n → length es < 2 → Err (refusal_at FewEntries 0) ≡ answer (passes owner next n k m es)
  unfolding passes
  few room h = rw (lt-leb n k room, lt-ltb (length es) 2 h)

  module _ (room : k < n) (enough : 2 ≤ length es) where
    -- 13, 6 or 7
    pub at_entries : (f : Refused) → answer (entries_pass owner k 0 es) ≡ Err f → answer (entries_pass owner k 0 es) ≡ answer (passes owner next n k m es)
    unfolding passes
    at_entries f h = rw (lt-leb n k room, le-ltb (length es) 2 enough) (stops (entries_pass owner k 0 es) _ f h)

    module _ (placed : answer (entries_pass owner k 0 es) ≡ Ok tt) where
      -- 8
      pub at_run : (f : Refused) → answer (run_passes next es) ≡ Err f → answer (run_passes next es) ≡ answer (passes owner next n k m es)
      unfolding passes
      at_run f h = rw (lt-leb n k room, le-ltb (length es) 2 enough, (accepted (entries_pass owner k 0 es) placed).is) (stops (run_passes next es) _ f h)

      module _ (linked : answer (run_passes next es) ≡ Ok tt) where
        last_test : answer (passes owner next n k m es) ≡ answer (refuse_if (eqb (k + 1) n && not (eqb (length es) m)) NotWhole 0)
        unfolding passes
        last_test = rw (lt-leb n k room, le-ltb (length es) 2 enough, (accepted (entries_pass owner k 0 es) placed).is, (accepted (run_passes next es) linked).is)

        -- 9 is of point n alone
        pub not_last : (k + 1 ≡ n → ⊥) → Ok tt ≡ answer (passes owner next n k m es)
        not_last l = rw (last_test, ne_eqb (k + 1) n l)

        -- 9
        pub not_whole : k + 1 ≡ n → (length es ≡ m → ⊥) → Err (refusal_at NotWhole 0) ≡ answer (passes owner next n k m es)
        not_whole l w = rw (last_test, eq-eqb (k + 1) n l, ne_eqb (length es) m w)

        -- none
        pub whole : k + 1 ≡ n → length es ≡ m → Ok tt ≡ answer (passes owner next n k m es)
        whole l w = rw (last_test, eq-eqb (k + 1) n l, eq-eqb (length es) m w)
