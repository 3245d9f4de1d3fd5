-- A whole call on the arrays: its answer is that of the rules, and the arrays go on storing the drawing of the rules.
use Rattle.std.specs.Prelude.{ℕ, ◌<◌, ◌≡◌, refl, List, map}
use Rattle.std.proofs.Common.{ap, ◌∙◌, arith}
use Rattle.rules.specs.declared.Reading.{Reading}
use Rattle.rules.specs.Refusals.{Result, good, refused, answer, ◌>>◌}
use Rattle.rules.specs.Entries.{read_entry, points_read, given_in}
use Rattle.rules.specs.Readings.{entry_of}
use Rattle.rules.proofs.Readings.{add_entries_lem}
use Rattle.rules.specs.Points.{Drawing}
use Rattle.rules.specs.Adding.{judge, placed_new, add_read, add}
use Rattle.rules.specs.Calls.{left}
use Rattle.store_links.specs.declared.Counts.{Counts}
use Rattle.store_links.specs.Arrays.{Arrays, Sized, Stores}
use Rattle.store_links.specs.Storing.{judged, with_point, spot_for, change_for, arrays_after, counts_after}
use Rattle.promise.specs.Standing.{Standing}
use Rattle.promise.proofs.Bounds.{standing-added}
use Rattle.promise.specs.Accepted.{accepted}
use Rattle.store_laws.specs.Tests.{run-within, run-distinct}
use Rattle.store_laws.specs.Reach.{judged_is, spotted}
use Rattle.store_laws.specs.Step.{stores_next, sized_with, lines_fit}

-- the arrays and numbers hold the drawing d, which came from opening and calls
pub record Holds (d : Drawing) (a : Arrays) (c : Counts) : Type 0 where
  pub standing : Standing d
  pub sized : Sized a
  pub stores : Stores d a c

-- they hold some drawing
pub record Ready (a : Arrays) (c : Counts) : Type 0 where
  pub d : Drawing
  pub holds : Holds d a c

-- what a call leaves
pub record Called (d : Drawing) (a : Arrays) (c : Counts) (es : List ℕ) (j : Result (Unit {0})) (e : Result Drawing) : Type 0 where
  pub answers : answer j ≡ answer e
  pub holds : Holds (left d e) (arrays_after j a c es) (counts_after j c es)

-- adding goes by its tests
add_by : (d : Drawing) (rs : List Reading) → add_read d rs ≡ (judge d rs >> good (placed_new d (given_in rs) (points_read rs)))
unfolding add_read
add_by d rs = refl

module _ {d : Drawing} {a : Arrays} {c : Counts} (h : Holds d a c) (es : List ℕ) where
  -- accepted: the drawing with the new point
  taken : (e : Drawing) → add d es ≡ good e → Holds e (with_point a c es (spot_for c.style a es) (change_for c.style a es)) (counts_after (good tt) c es)
  taken e given =
      let q = add_entries_lem d e es given in
      let s = h.standing.sound in
      let t = h.stores in
      let k = accepted d e (map entry_of es) q in
      let room : d.k < 1024 = omega (arith, k.room, h.standing.ranged.high) in
      record {
        standing = standing-added d e (map entry_of es) h.standing q;
        sized = sized_with a c es (spot_for c.style a es) (change_for c.style a es) h.sized;
        stores =
            rw k.is
            (stores_next d a c es k.l k.r (spot_for c.style a es) (change_for c.style a es) s room h.sized t (rw t.k (run-within es s k.run)) (run-distinct es s k.run) k.run
            (spotted es t s k.run) (lines_fit d es k.l k.r s room k.run));
      }

  abbrev rs : List Reading
  rs = map read_entry es

  abbrev new : Drawing
  new = placed_new d (given_in rs) (points_read rs)

  by_test : (j : Result (Unit {0})) → judge d rs ≡ j → Called d a c es j (j >> good new)
  by_test (good t) q = record { answers = refl; holds = taken new (add_by d rs ∙ ap (λ j. j >> good new) q) }
  by_test (refused r p) q = record { answers = refl; holds = h }

  -- the call as a whole
  pub called : Called d a c es (judged a c es) (add d es)
  called =
      rw (judged_is h.stores h.standing.sound es, add_by d rs)
      (by_test (judge d rs) refl)
