-- One turn of covering, on lists.
use Rattle.std.specs.Prelude.{ℕ, zero, suc, pred, ◌+◌, ◌-◌, ◌<◌, ◌≤◌, ◌≡◌, refl, List, length}
use Rattle.std.proofs.Common.{◌∙◌, le_refl, add-zero, add-suc, add-one, arith, get_or-set_other}
use Rattle.store_links.specs.declared.Spot.{Spot}
use Rattle.store_links.specs.Arrays.{Arrays, at_point, gap_offset}
use Rattle.store_links.specs.Placing.{entry_point, way, inner_count}
use Rattle.store_links.specs.Storing.{put_at, covered_gaps, covered_owners}
use Rattle.store_points.specs.Storable.{Coverable}
use Rattle.store_points.specs.Stages.{covered}

-- the points of the entries behind entry i keep their gaps while the entries up to i are covered
still : (gap es : List ℕ) (p : Spot) (i j : ℕ) → Coverable es gap p → i < j → j < length es → at_point (covered_gaps gap es p i) (entry_point es j) ≡ at_point gap (entry_point es j)
unfolding covered_gaps
still gap es p zero j k h l = refl
still gap es p (suc i) j k h l =
    get_or-set_other (covered_gaps gap es p i) (pred (entry_point es (suc i))) (pred (entry_point es j)) _ 0
    (λ e. k.distinct.differ (suc i) j h l (omega (arith, k.within.low (suc i) (omega arith), k.within.low j l, e)))
    ∙ still gap es p i j k (omega arith) l

-- a later entry's point lies no nearer
way_more : (gap es : List ℕ) (i d : ℕ) → way gap es i ≤ way gap es (i + d)
way_more gap es i zero = rw add-zero (le_refl _)
way_more gap es i (suc d) = rw add-suc (omega (arith, way_more gap es i d))

way_most : (gap es : List ℕ) (i j : ℕ) → i ≤ j → way gap es i ≤ way gap es j
way_most gap es i j h =
    let e : i + (j - i) ≡ j = omega arith in
    rw e at (way_more gap es i (j - i))

-- the entries 1 to i of a call are covered in the arrays b, `far` is the way to the last of them, and r is the gap of the point q of entry i + 1, which is covered next
pub record Turn (a : Arrays) (es : List ℕ) (p : Spot) (v i far : ℕ) (b : Arrays) (q r : ℕ) : Type 0 where
  pub call : Coverable es a.gap p
  pub inner : i < inner_count es
  pub passed : far ≡ way a.gap es i
  pub arrays : b ≡ covered a es p v i
  pub point : q ≡ entry_point es (i + 1)
  pub read : r ≡ at_point b.gap q

module _ {a : Arrays} {es : List ℕ} {p : Spot} {v i far : ℕ} {b : Arrays} {q r : ℕ} (t : Turn a es p v i far b q r) where
  pub turn-way : far + r ≡ way a.gap es (i + 1)
  turn-way =
      let s : at_point (covered_gaps a.gap es p i) (entry_point es (i + 1)) ≡ at_point a.gap (entry_point es (i + 1)) = still a.gap es p i (i + 1) t.call (omega arith) (omega (arith, t.inner)) in
      rw (t.passed, t.read, t.arrays, t.point, s, add-one)

  pub turn_near : far + r + p.s1 < gap_offset
  turn_near = omega (arith, turn-way, way_most a.gap es (i + 1) (inner_count es) (omega (arith, t.inner)), t.call.near)

  -- with it one entry more is covered
  pub cover_more : record b { gap = put_at b.gap q (far + r + p.s1 + gap_offset - p.dx); owner = put_at b.owner q v } ≡ covered a es p v (i + 1)
  unfolding covered_gaps covered_owners
  cover_more = rw (turn-way, t.arrays, t.point, add-one)
