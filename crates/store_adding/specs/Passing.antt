-- What is known of a call that passes the tests before 25, and how each outcome answers it.
use Rattle.std.specs.Prelude.{ℕ, suc, ◌+◌, ◌-◌, ◌/◌, ◌<◌, ◌≤◌, ◌≡◌, refl, Bool, true, false, not, List, map, length, Option, Some, None, Ok, Err}
use Rattle.std.proofs.Common.{sym, ap, ◌∙◌, subst, arith}
use Rattle.rules.specs.declared.Style.{Style}
use Rattle.rules.specs.declared.Style.TheVariants.{OneBend, Straight}
use Rattle.rules.specs.declared.Refused.{Refused}
use Rattle.rules.specs.declared.Refusal.TheVariants.{NoReach}
use Rattle.rules.specs.Refusals.{Result, good, refused, ◌>>◌, refuse_if, answer, refusal_at}
use Rattle.rules.specs.Results.{refusing}
use Rattle.rules.specs.Styles.{taken, reach_passes}
use Rattle.rules.specs.Entries.{read_entry}
use Rattle.rules.specs.Readings.{entry_of}
use Rattle.rules.proofs.Readings.{points_read_lem}
use Rattle.store_links.specs.declared.Counts.{Counts}
use Rattle.store_links.specs.declared.Spot.{Spot}
use Rattle.store_links.specs.Arrays.{Arrays, Sized, at_point}
use Rattle.store_links.specs.Judging.{passes}
use Rattle.store_links.specs.Placing.{entry_point, spot_of, change_from, all_reach_from, inner_count}
use Rattle.store_links.specs.Runs.{Within, Distinct}
use Rattle.store_links.specs.Storing.{new_line, spot_for, judged, with_point, with_counts}
use Rattle.store_tables.specs.declared.Drawing.{Drawing}
use Rattle.store_tables.specs.Tables.{arrays_in}
use Rattle.promise.specs.Accepted.{tests_passed}
use Rattle.store_laws.specs.Tests.{passes_is, run-within, run-distinct}
use Rattle.store_laws.specs.Reading.{run-size}
use Rattle.store_laws.specs.Spots.{Bounded, bounded}
use Rattle.store_laws.specs.Step.{lines_fit}
use Rattle.store_judging.specs.Passed.{within_up}
use Rattle.store_placing.specs.Ports.{from_told, none_told}
use Rattle.store_placing.specs.Small.{Small}
use Rattle.store_calls.specs.Storable.{Storable}
use Rattle.store_laws.specs.Adding.{Ready}
use Rattle.store_adding.specs.Calls.{Answered, Runs, ports_by}

-- the tests before 25
abbrev pub tests : Arrays → Counts → List ℕ → Result (Unit {0})
tests a c es = passes a.owner a.next c.n c.k c.m es

-- a call that passed them, in numbers
pub record Passing (a : Arrays) (c : Counts) (es : List ℕ) : Type 0 where
  pub all_good : tests a c es ≡ good tt
  pub sized : Sized a
  pub some : 1 < length es
  pub fits : length es ≤ c.m
  pub border : c.m ≤ 1024
  pub room : c.k < 1024
  pub lines : c.lines + length es ≤ 3072
  pub within : Within c.k es
  pub distinct : Distinct es
  pub bounded : Bounded c.style a c.k es
  pub h : (spot_for c.style a es).h ≤ length es

-- The middle row lies half as low as there are entries.
row_half : (τ : Style) (a : Arrays) (es : List ℕ) → (spot_for τ a es).h ≡ length es / 2
unfolding spot_of
row_half τ a es = refl

-- Such a call on a drawing that is ready has a run of the boundary, so the numbers are bounded.
pub passing : {a : Arrays} {c : Counts} → Ready a c → (es : List ℕ) → tests a c es ≡ good tt → Passing a c es
passing {a} {c} r es h =
    let d = r.d in
    let t = r.holds.stores in
    let s = r.holds.standing.sound in
    let g = r.holds.standing.ranged in
    let p = tests_passed d (map read_entry es) (map entry_of es) (points_read_lem es) (sym (passes_is t s es) ∙ h) in
    let q = p.run in
    let room : d.k < 1024 = omega (arith, p.room, g.high) in
    record {
      all_good = h;
      sized = r.holds.sized;
      some = omega (arith, run-size es q, q.lr);
      fits = omega (arith, run-size es q, q.rm, t.m);
      border = omega (arith, t.m, g.border);
      room = omega (arith, t.k);
      lines = omega (arith, t.lines, lines_fit d es _ _ s room q);
      within = rw t.k (run-within es s q);
      distinct = run-distinct es s q;
      bounded = subst (λ τ. Bounded τ a c.k es) (sym t.style) (rw t.k (bounded es t s q));
      h = omega (arith, row_half c.style a es);
    }

module _ {a : Arrays} {c : Counts} {es : List ℕ} (p : Passing a c es) where
  pub all_within : Within 1024 es
  all_within = within_up c.k 1024 es (omega (arith, p.room)) p.within

  pub most : length es ≤ 1024
  most = omega (arith, p.fits, p.border)

  -- what spot_over asks
  pub runs : Runs es a
  runs =
      record {
        some = p.some;
        most = most;
        within = all_within;
        far = omega (arith, p.bounded.way (length es - 1) (omega (arith, p.some)), p.room);
        rise_l = omega (arith, p.bounded.rise_l);
        rise_r = omega (arith, p.bounded.rise_r);
      }

  -- what all_reach and change_at ask of the spot
  pub small : (o : Spot) → o ≡ spot_for c.style a es → Small o
  small o e =
      rw e
      (record {
        dx = omega (arith, p.bounded.dx, p.room);
        y = omega (arith, p.bounded.y, p.room);
        h = omega (arith, p.h, most);
        s1 = omega (arith, p.bounded.s1);
      })

  -- what store asks
  pub storable : (o : Spot) → o ≡ spot_for c.style a es → Storable a c es o
  storable o e =
      rw e
      (record {
        entries = p.some;
        within = p.within;
        distinct = p.distinct;
        points = p.room;
        lines = p.lines;
        dx = omega (arith, p.bounded.dx, p.room);
        rest = omega (arith, p.bounded.rest, p.room);
        y = omega (arith, p.bounded.y, p.room);
        h = omega (arith, p.h, most);
        near = omega (arith, p.bounded.way (inner_count es) (omega (arith, p.some)), p.bounded.s1, p.room);
        rights = omega (arith, p.bounded.rights, p.room);
        lefts = omega (arith, p.bounded.lefts, p.room);
      })

-- ---- the three outcomes

-- judged, once the tests before 25 are known
judged_by : (a : Arrays) (c : Counts) (es : List ℕ) (r : Result (Unit {0})) → tests a c es ≡ r →
    judged a c es ≡ (r >> refuse_if (not (reach_passes c.style (all_reach_from (spot_for c.style a es) a.gap a.ys es 1 (inner_count es)))) NoReach 0)
unfolding judged
judged_by a c es r e = ap (λ j. j >> refuse_if (not (reach_passes c.style (all_reach_from (spot_for c.style a es) a.gap a.ys es 1 (inner_count es)))) NoReach 0) e

-- A refused call leaves everything.
stays : (d : Drawing) (es : List ℕ) (f : Refused) → judged (arrays_in d.table) d.counts es ≡ refused f.refusal f.place → Answered d es d (Err f)
stays d es f j = record { answer = rw j; arrays = rw j; counts = rw j }

-- The tests before 25 refuse.
pub refused-early : (d : Drawing) (es : List ℕ) (f : Refused) → answer (tests (arrays_in d.table) d.counts es) ≡ Err f → Answered d es d (Err f)
refused-early d es f is =
    let a = arrays_in d.table in
    stays d es f (judged_by a d.counts es (refused f.refusal f.place) (refusing (tests a d.counts es) f is))

-- Straight lines have no port, so they are stored alike wherever ports change.
lines_alike : (τ : Style) → τ ≡ Straight → (v rights lefts f g : ℕ) (es : List ℕ) → new_line τ v rights lefts f es ≡ new_line τ v rights lefts g es
lines_alike OneBend b v rights lefts f g es = absurd (let z : ◌≡◌ {A = ℕ} 0 1 = cc in omega arith)
lines_alike Straight b v rights lefts f g es = refl

stored-alike : (a : Arrays) (c : Counts) (es : List ℕ) (p : Spot) → c.style ≡ Straight → (f g : ℕ) → with_point a c es p f ≡ with_point a c es p g
unfolding with_point
stored-alike a c es p b f g =
    let rights = taken c.style (at_point a.drs (entry_point es 0)) in
    let lefts = taken c.style (at_point a.dls (entry_point es (length es - 1))) in
    rw (lines_alike c.style b (suc c.k) rights lefts f g es)

module _ (d : Drawing) (es : List ℕ) (o : Spot) (all_good : tests (arrays_in d.table) d.counts es ≡ good tt) (at : o ≡ spot_for d.counts.style (arrays_in d.table) es) where
  abbrev a : Arrays
  a = arrays_in d.table

  abbrev c : Counts
  c = d.counts

  -- where the ports change, and 25, by the spot that the code computed
  abbrev pub change : ℕ
  change = change_from o a.gap a.ys es 1 (inner_count es)

  abbrev pub all : Bool
  all = all_reach_from o a.gap a.ys es 1 (inner_count es)

  reach_by : (b : Bool) → reach_passes c.style all ≡ b → judged a c es ≡ refuse_if (not b) NoReach 0
  reach_by b e = judged_by a c es (good tt) all_good ∙ rw (sym e, at)

  -- 25 refuses, which it does only where lines bend.
  pub refused-late : (r : Option ℕ) → r ≡ ports_by c.style (length es - 1) change all → r ≡ None → (f : Refused) → f ≡ refusal_at NoReach 0 → Answered d es d (Err f)
  refused-late r e q f is = rw is (stays d es (refusal_at NoReach 0) (reach_by false (told c.style (sym e ∙ q))))
    where
      told : (τ : Style) → ports_by τ (length es - 1) change all ≡ None → reach_passes τ all ≡ false
      told OneBend h = none_told change all h
      told Straight h = absurd (let z : ◌≡◌ {A = ℕ} 0 1 = cc in omega arith)

  -- The call is accepted.
  pub accepts : (r : Option ℕ) → r ≡ ports_by c.style (length es - 1) change all → (from : ℕ) → r ≡ Some from →
      (d' : Drawing) → arrays_in d'.table ≡ with_point a c es o from → d'.counts ≡ with_counts c (length es) → Answered d es d' (Ok tt)
  accepts r e from q d' stored counted =
      let t = told c.style refl (sym e ∙ q) in
      let j : judged a c es ≡ good tt = reach_by true t.0 in
      record { answer = rw j; arrays = rw j (stored ∙ t.1 ∙ rw at); counts = rw j counted }
    where
      told : (τ : Style) → c.style ≡ τ → ports_by τ (length es - 1) change all ≡ Some from → (reach_passes τ all ≡ true) × (with_point a c es o from ≡ with_point a c es o change)
      told OneBend b h = let t = from_told change from all h in (t.0, ap (with_point a c es o) t.1)
      told Straight b h = (refl, stored-alike a c es o b from change)
