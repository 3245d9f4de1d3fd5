-- What an accepted call stores: the inner points are covered, the new point is linked in, dr of wl and dl of wr grow where lines take ports, the lines are added.
use Rattle.std.specs.Prelude.{ℕ, zero, suc, pred, ◌+◌, ◌-◌, not, List, length, get_or, set}
use Rattle.rules.specs.declared.Style.{Style}
use Rattle.rules.specs.declared.Bend.{Bend}
use Rattle.rules.specs.declared.Line.{Line}
use Rattle.rules.specs.declared.Refusal.TheVariants.{NoReach}
use Rattle.rules.specs.Refusals.{Result, good, refused, ◌>>◌, refuse_if}
use Rattle.rules.specs.Styles.{taken, bent, reach_passes}
use Rattle.rules.specs.Readings.{entry_of}
use Rattle.rules.specs.Adding.{new_bend}
use Rattle.store_links.specs.declared.Spot.{Spot}
use Rattle.store_links.specs.declared.Counts.{Counts}
use Rattle.store_links.specs.Arrays.{Arrays, at_point, gap_offset}
use Rattle.store_links.specs.Judging.{passes}
use Rattle.store_links.specs.Placing.{entry_point, way, spot_of, change_from, all_reach_from, inner_count}

-- a list with v at point p
abbrev pub put_at : List ℕ → ℕ → ℕ → List ℕ
put_at l p v = set l (pred p) v

-- the gaps and the owners once the entries 1, .., i are covered by point v
unfoldable pub covered_gaps : List ℕ → List ℕ → Spot → ℕ → List ℕ
covered_gaps gap es p zero = gap
covered_gaps gap es p (suc i) = put_at (covered_gaps gap es p i) (entry_point es (suc i)) (way gap es (suc i) + p.s1 + gap_offset - p.dx)

unfoldable pub covered_owners : List ℕ → List ℕ → ℕ → ℕ → List ℕ
covered_owners owner es v zero = owner
covered_owners owner es v (suc i) = put_at (covered_owners owner es v i) (entry_point es (suc i)) v

-- the line of the entry that is the number e, from the later point v, with this bend
abbrev pub line_of : ℕ → Bend → ℕ → Line
line_of v b e = record { later = v; earlier = (entry_of e).point; bend = b; kind = (entry_of e).kind }

-- entry i's line from point v: it bends at wl's new right port, wr's new left port, or a middle port, which change to i + 1 at `from`; a straight line nowhere
abbrev pub new_line : Style → ℕ → ℕ → ℕ → ℕ → List ℕ → ℕ → Line
new_line style v rights lefts from es i = line_of v (bent style (new_bend rights lefts (length es - 1) from i)) (get_or es i 0)

-- a list with f 0, .., f (i - 1) from index `at` on
unfoldable pub filled : {A : Type 0} → (ℕ → A) → List A → ℕ → ℕ → List A
filled f l at zero = l
filled f l at (suc i) = set (filled f l at i) (at + i) (f i)

-- the arrays with the new point over the run of the entries, at the spot p, with ports that change at `from`
unfoldable pub with_point : Arrays → Counts → List ℕ → Spot → ℕ → Arrays
with_point a c es p from =
    let v = suc c.k in
    let wl = entry_point es 0 in
    let wr = entry_point es (length es - 1) in
    let rights = taken c.style (at_point a.drs wl) in
    let lefts = taken c.style (at_point a.dls wr) in
    record {
      next = put_at (put_at a.next v wr) wl v;
      gap = put_at (put_at (covered_gaps a.gap es p (inner_count es)) v p.dx) wr p.rest;
      owner = put_at (covered_owners a.owner es v (inner_count es)) v 0;
      ys = put_at a.ys v p.y;
      dls = put_at (put_at a.dls v 0) wr lefts;
      drs = put_at (put_at a.drs v 0) wl rights;
      hs = put_at a.hs v p.h;
      lines = filled (new_line c.style v rights lefts from es) a.lines c.lines (length es);
    }

-- the numbers with it
abbrev pub with_counts : Counts → ℕ → Counts
with_counts c entries = record { style = c.style; n = c.n; s = c.s; k = suc c.k; m = c.m + 3 - entries; lines = c.lines + entries }

-- where the new point goes, and where its ports change
abbrev pub spot_for : Style → Arrays → List ℕ → Spot
spot_for style a es =
    spot_of style (way a.gap es (length es - 1)) (at_point a.ys (entry_point es 0)) (at_point a.ys (entry_point es (length es - 1)))
    (at_point a.drs (entry_point es 0)) (at_point a.dls (entry_point es (length es - 1))) (length es)

abbrev pub change_for : Style → Arrays → List ℕ → ℕ
change_for style a es = change_from (spot_for style a es) a.gap a.ys es 1 (inner_count es)

-- every test of an adding call; 25 is asked where lines bend
unfoldable pub judged : Arrays → Counts → List ℕ → Result (Unit {0})
judged a c es = do
  passes a.owner a.next c.n c.k c.m es
  refuse_if (not (reach_passes c.style (all_reach_from (spot_for c.style a es) a.gap a.ys es 1 (inner_count es)))) NoReach 0

-- the arrays and the numbers after a call that was judged so
abbrev pub arrays_after : Result (Unit {0}) → Arrays → Counts → List ℕ → Arrays
arrays_after (good t) a c es = with_point a c es (spot_for c.style a es) (change_for c.style a es)
arrays_after (refused r p) a c es = a

abbrev pub counts_after : Result (Unit {0}) → Counts → List ℕ → Counts
counts_after (good t) c es = with_counts c (length es)
counts_after (refused r p) c es = c
