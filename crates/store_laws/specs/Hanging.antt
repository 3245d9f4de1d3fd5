-- Covered points by their gaps after an accepted call: one covered before moved with its owner, one covered now hangs on the new point.
use Rattle.std.specs.Prelude.{ℕ, zero, suc, pred, ◌+◌, ◌-◌, ◌<◌, ◌≤◌, ◌≡◌, refl, ◌≢◌, Bool, true, false, List, map, get_or}
use Rattle.std.proofs.Common.{ap, sym, ◌∙◌, arith}
use Rattle.std.proofs.Math.Decide.{ℕ_discrete}
use Rattle.rules.specs.Basics.{index_of}
use Rattle.rules.specs.Points.{Drawing, x_of, owner_of, w, m}
use Rattle.rules.specs.Readings.{entry_of}
use Rattle.rules.specs.Adding.{inside}
use Rattle.rules.specs.Moving.{column}
use Rattle.net.specs.Amounts.{moves}
use Rattle.net.specs.Side.{inset_most}
use Rattle.store_links.specs.declared.Spot.{Spot}
use Rattle.store_links.specs.declared.Counts.{Counts}
use Rattle.store_links.specs.Arrays.{Arrays, at_point, gap_offset}
use Rattle.store_links.specs.Placing.{entry_point, inner_count, way}
use Rattle.store_links.specs.Storing.{with_point}
use Rattle.promise.specs.Nets.{net_of}
use Rattle.promise.specs.Moved.{amount1, amount2}
use Rattle.promise.specs.Columns.{new_owners, k_next, owners_next, index_is}
use Rattle.promise.specs.Places as Places
use Rattle.store_laws.specs.Puts.{gaps_in}
use Rattle.store_laws.specs.Reading.{entry_is}
use Rattle.promise.specs.Frames.{wide, framed}
use Rattle.store_laws.specs.Points.{Call, after, Inner, size, w_low, w_differ, inner_in, inner-entry, taking}
use Rattle.store_laws.specs.Links.{gaps_over, gap_over, gap_other, x_inner, x_new}

module _ {d : Drawing} {a : Arrays} {c : Counts} {es : List ℕ} {l r : ℕ} {p : Spot} {from : ℕ} (h : Call d a c es l r p from) where
  -- ---- a point covered now

  -- Before the call, entry i lies its way to the right of wl.
  way_x : (i : ℕ) → l + i ≤ r → x_of d (w d (l + i)) ≡ x_of d (w d l) + way a.gap es i
  way_x zero b = let e : l + 0 ≡ l = omega arith in ap (λ (n : ℕ). x_of d (w d n)) e ∙ omega arith
  way_x (suc i) b =
      let e : l + suc i ≡ suc (l + i) = omega arith in
      let t : entry_point es (suc i) ≡ w d (suc (l + i)) = entry_is es h.run (suc i) b ∙ ap (w d) e in
      rw (e, t) (omega (arith, way_x i (omega arith), h.stores.step (l + i) (omega (arith, h.run.rm))))

  -- The new point is not far to the right.
  dx_small : p.dx ≤ gap_offset
  dx_small =
      let b : pred (w d r) < d.k = omega (arith, w_low h r h.run.rm) in
      omega (
        arith,
        h.room,
        h.spotted.x,
        h.spotted.rest,
        wide h.sound,
        inset_most d.style,
        Places.right_x d (map entry_of es) l r h.sound h.run,
        Places.most d (map entry_of es) l r h.sound h.run,
        (framed h.sound (pred (w d r)) b).1,
      )

  -- A covered entry has the gap to the new point.
  gap-inner : (q : ℕ) (t : Inner es l r (suc q)) → q < d.k → at_point (with_point a c es p from).gap (suc q) ≡ way a.gap es t.j + p.s1 + gap_offset - p.dx
  gap-inner q t b =
      let at : suc q ≡ w d (l + t.j) = t.entry ∙ entry_is es h.run t.j (omega (arith, t.high)) in
      let n : w d (l + t.j) ≢ w d r = w_differ h (l + t.j) r (omega (arith, t.high, h.run.rm)) h.run.rm (omega (arith, t.high)) in
      gap_over h (suc q) (omega arith) (λ e. n (sym at ∙ e)) (omega arith) ∙
      ap (at_point (gaps_over a es p)) t.entry ∙
      gaps_in es c.k (inner_count es) h.within (inner_in h) a.gap p (omega (arith, h.stores.k, h.sized.gap, h.room)) h.distinct t.j t.low t.last

  -- It hangs on the new point.
  hang_new : (q : ℕ) (t : Inner es l r (suc q)) → q < d.k → x_of (after d es l r) (suc q) + gap_offset ≡ x_of (after d es l r) (suc d.k) + at_point (with_point a c es p from).gap (suc q)
  hang_new q t b =
      let at : suc q ≡ w d (l + t.j) = t.entry ∙ entry_is es h.run t.j (omega (arith, t.high)) in
      omega (
        arith,
        ap (x_of (after d es l r)) at,
        x_inner h (l + t.j) (omega (arith, t.low)) t.high,
        way_x t.j (omega (arith, t.high)),
        x_new h,
        gap-inner q t b,
        h.spotted.s1,
        dx_small,
      )

  -- ---- a point covered before

  module _ (q o : ℕ) (b : q < d.k) (e : owner_of d (suc q) ≡ suc o) where
    -- It is no boundary point.
    off_boundary : (j : ℕ) → j < m d → suc q ≢ w d j
    off_boundary j jm t =
        let i : index_of (suc q) d.boundary ≡ j = ap (λ (v : ℕ). index_of v d.boundary) t ∙ index_is h.sound j jm in
        omega (arith, h.sound.rooted.free q (omega arith), e)

    -- Its owner is placed, in the same column.
    owner-column : (o < d.k) × (column d (suc o) ≡ column d (suc q))
    owner-column =
        let g = h.sound.core in
        let cm = g.points.cols q b in
        let n : q ≢ pred (w d (column d (suc q))) = λ t. off_boundary (column d (suc q)) cm (omega (arith, w_low h (column d (suc q)) cm)) in
        let t = g.owners.owned q b n in
        let at : (net_of d).own q ≡ o = ap (λ (v : ℕ). pred v) e in
        rw (← at) (t.1, t.2)

    -- It keeps its gap.
    gap_old : at_point (with_point a c es p from).gap (suc q) ≡ at_point a.gap (suc q)
    gap_old =
        gap_other h (suc q) (omega arith) (off_boundary r h.run.rm) (omega arith)
        (λ j z jb t. let s : l + j < r = omega (arith, size h, h.run.lr) in off_boundary (l + j) (omega (arith, h.run.rm)) (t ∙ entry_is es h.run j (omega arith)))

    -- It moved with its owner, so it hangs as before.
    hang_old : x_of (after d es l r) (suc q) + gap_offset ≡ x_of (after d es l r) (suc o) + at_point (with_point a c es p from).gap (suc q)
    hang_old =
        let t = owner-column in
        omega (
          arith,
          h.stores.hang q o b e,
          Places.x_old d (map entry_of es) l r h.sound h.run q b,
          Places.x_old d (map entry_of es) l r h.sound h.run o t.0,
          ap (moves l r (amount1 d l) (amount2 d l r)) t.1,
          gap_old,
        )

  -- ---- every covered point

  -- The owner of a point after the call.
  owner_after : (q : ℕ) → owner_of (after d es l r) (suc q) ≡ get_or (new_owners d l r) q 0
  owner_after q = ap (λ (t : List ℕ). get_or t q 0) (owners_next d (map entry_of es) l r)

  -- Every covered point lies its gap, less 32,768, to the right of its owner.
  pub hang_kept : (q o : ℕ) → suc q ≤ (after d es l r).k → owner_of (after d es l r) (suc q) ≡ suc o →
      x_of (after d es l r) (suc q) + gap_offset ≡ x_of (after d es l r) (suc o) + at_point (with_point a c es p from).gap (suc q)
  hang_kept q o b e =
      elim (ℕ_discrete q d.k) [
        | yes t ↦ absurd (omega (arith, owner_after q, ap (λ (v : ℕ). get_or (new_owners d l r) v 0) t, (taking h).top, e))
        | no n ↦ go (omega (arith, k_next d (map entry_of es) l r)) (inside l r d.boundary (suc q)) refl
      ]
    where
      go : q < d.k → (t : Bool) → inside l r d.boundary (suc q) ≡ t →
          x_of (after d es l r) (suc q) + gap_offset ≡ x_of (after d es l r) (suc o) + at_point (with_point a c es p from).gap (suc q)
      go qk true i =
          let s : o ≡ d.k = omega (arith, owner_after q, (taking h).taken q i, e) in
          rw s (hang_new q (inner-entry h q i) qk)
      go qk false i = hang_old q o qk (sym ((taking h).other q i) ∙ sym (owner_after q) ∙ e)
