-- An accepted adding call keeps the arrays true to the drawing: what the code stores is the next drawing of the rules.
use Rattle.std.specs.Prelude.{ℕ, suc, ◌+◌, ◌-◌, ◌<◌, ◌≤◌, ◌≡◌, refl, List, map, length}
use Rattle.std.proofs.Common.{ap, sym, ◌∙◌, arith}
use Rattle.std.proofs.lemmas.List.{length-map}
use Rattle.rules.specs.Styles.{taken}
use Rattle.rules.specs.Points.{Drawing}
use Rattle.rules.specs.Readings.{entry_of}
use Rattle.store_links.specs.declared.Spot.{Spot}
use Rattle.store_links.specs.declared.Counts.{Counts}
use Rattle.store_links.specs.Arrays.{Arrays, Sized, Stores, at_point}
use Rattle.store_links.specs.Placing.{entry_point, inner_count}
use Rattle.store_links.specs.Runs.{Within, Distinct}
use Rattle.store_links.specs.Storing.{put_at, covered_gaps, covered_owners, new_line, with_point, with_counts}
use Rattle.promise.specs.Sound.{Sound}
use Rattle.promise.specs.Next.{IsRun, next}
use Rattle.promise.specs.Columns.{style_next, k_next}
use Rattle.promise.specs.Border.{m'}
use Rattle.promise.proofs.Within.{counted}
use Rattle.store_laws.specs.Spotted.{Spotted}
use Rattle.store_laws.specs.Puts.{length-put, length-gaps, length-owners, length-filled}
use Rattle.store_laws.specs.Points.{Call, after, size, ys_kept, hs_kept, dls_kept, drs_kept, owner_kept}
use Rattle.store_laws.specs.Links.{link_kept, last_kept, step_kept}
use Rattle.store_laws.specs.Hanging.{hang_kept}
use Rattle.store_laws.specs.LinesKept.{count_after, lines_kept}

-- ---- lengths

-- Putting two numbers keeps a length.
length_two : (t : List ℕ) (q v q' v' n : ℕ) → length t ≡ n → length (put_at (put_at t q v) q' v') ≡ n
length_two t q v q' v' n e = length-put (put_at t q v) q' v' ∙ length-put t q v ∙ e

-- The arrays keep their room.
pub sized_with : (a : Arrays) (c : Counts) (es : List ℕ) (p : Spot) (from : ℕ) → Sized a → Sized (with_point a c es p from)
unfolding with_point
sized_with a c es p from z =
    let v = suc c.k in
    let wl = entry_point es 0 in
    let wr = entry_point es (length es - 1) in
    let rights = taken c.style (at_point a.drs wl) in
    let lefts = taken c.style (at_point a.dls wr) in
    record {
      next = length_two a.next v wr wl v 1024 z.next;
      gap = length_two (covered_gaps a.gap es p (inner_count es)) v p.dx wr p.rest 1024 (length-gaps a.gap es p (inner_count es) ∙ z.gap);
      owner = length-put (covered_owners a.owner es v (inner_count es)) v 0 ∙ length-owners a.owner es v (inner_count es) ∙ z.owner;
      ys = length-put a.ys v p.y ∙ z.ys;
      dls = length_two a.dls v 0 wr lefts 1024 z.dls;
      drs = length_two a.drs v 0 wl rights 1024 z.drs;
      hs = length-put a.hs v p.h ∙ z.hs;
      lines = length-filled (new_line c.style v rights lefts from es) a.lines c.lines (length es) ∙ z.lines;
    }

-- ---- the theorem

-- A call leaves n as it is.
n_next : (d : Drawing) (es : List ℕ) (l r : ℕ) → (after d es l r).n ≡ d.n
unfolding next
n_next d es l r = refl

-- It leaves the scale.
s_next : (d : Drawing) (es : List ℕ) (l r : ℕ) → (after d es l r).s ≡ d.s
unfolding next
s_next d es l r = refl

-- The arrays have room for the new lines: there are 3k - 3 - m old ones, and at most m new ones.
pub lines_fit : (d : Drawing) (es : List ℕ) (l r : ℕ) → Sound d → d.k < 1024 → IsRun d (map entry_of es) l r → length d.lines + length es ≤ 3072
lines_fit d es l r s k q = omega (arith, counted s, q.size, q.rm, length-map es entry_of)

-- What the code stores of a call is the next drawing.
pub stores-call : {d : Drawing} {a : Arrays} {c : Counts} {es : List ℕ} {l r : ℕ} {p : Spot} {from : ℕ} → Call d a c es l r p from →
    Stores (next d (map entry_of es) l r) (with_point a c es p from) (with_counts c (length es))
stores-call {d} {a} {c} {es} {l} {r} {p} {from} h =
    record {
      style = h.stores.style ∙ sym (style_next d (map entry_of es) l r);
      n = h.stores.n ∙ sym (n_next d es l r);
      s = h.stores.s ∙ sym (s_next d es l r);
      k = ap suc h.stores.k ∙ sym (k_next d (map entry_of es) l r);
      m = omega (arith, h.stores.m, size h, h.run.lr, m' d (map entry_of es) l r h.sound h.run);
      lines = omega (arith, h.stores.lines, count_after h);
      owner = owner_kept h;
      ys = ys_kept h;
      dls = dls_kept h;
      drs = drs_kept h;
      hs = hs_kept h;
      link = link_kept h;
      last = last_kept h;
      step = step_kept h;
      hang = hang_kept h;
      drawn = lines_kept h;
    }

-- An accepted adding call keeps the arrays true to the drawing.
pub stores_next : (d : Drawing) (a : Arrays) (c : Counts) (es : List ℕ) (l r : ℕ) (p : Spot) (from : ℕ) → Sound d → d.k < 1024 → Sized a → Stores d a c →
    Within c.k es → Distinct es → IsRun d (map entry_of es) l r → Spotted d es l r p from → length d.lines + length es ≤ 3072 →
    Stores (next d (map entry_of es) l r) (with_point a c es p from) (with_counts c (length es))
stores_next d a c es l r p from s k z t i n q o f =
    stores-call (record { sound = s; room = k; sized = z; stores = t; within = i; distinct = n; run = q; spotted = o; fits = f })
