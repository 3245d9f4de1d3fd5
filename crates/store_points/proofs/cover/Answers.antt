-- The goals of a turn, from what is known once the turn's point is read.
use Rattle.std.proofs.Common.{ℕ, ◌+◌, ◌<◌, ◌≡◌, refl, ap, ◌∙◌, List, arith}
use Rattle.store_links.specs.declared.Spot.{Spot}
use Rattle.store_links.specs.Arrays.{Arrays}
use Rattle.store_links.specs.Placing.{way, entry_point, inner_count}
use Rattle.store_links.specs.Storing.{covered_gaps, covered_owners}
use Rattle.store_tables.specs.declared.Point.{Point}
use Rattle.store_tables.specs.Columns.{point_at}
use Rattle.store_points.specs.Storable.{Coverable}
use Rattle.store_points.specs.Stages.{covered}
use Rattle.store_points.proofs.Covering.{Turn, turn-way, turn_near, cover_more}
use Rattle.store_points.proofs.Linking.{recovered}
use Rattle.store_points.proofs.cover.Goals as goal

-- a turn, once the point x is read, and its gap
turn : {a : Arrays} {es : List ℕ} {p : Spot} {v i far : ℕ} {b : Arrays} {q r : ℕ} {x : Point} → Coverable es a.gap p → i < inner_count es → (far ≡ way a.gap es i) × (b ≡ covered a es p v i) →
    q ≡ entry_point es (i + 1) → x ≡ point_at b q → r ≡ x.gap → Turn a es p v i far b q r
turn k n w g h e = record { call = k; inner = n; passed = w.0; arrays = w.1; point = g; read = e ∙ ap (λ (x : Point). x.gap) h }

pub loop-i-init : goal.loop-i-init
unfolding covered_gaps covered_owners
loop-i-init c = (refl, refl)

pub overflow_add-far : goal.overflow_add-far
overflow_add-far c = omega (arith, turn_near (turn c.requires (omega arith) c.loop-i.invariant c.point_of-q.ensures c.point-inner.ensures c.from-far.ensures))

pub overflow_add-covered : goal.overflow_add-covered
overflow_add-covered c = omega (arith, turn_near (turn c.requires (omega arith) c.loop-i.invariant c.point_of-q.ensures c.point-inner.ensures c.from-far.ensures))

pub overflow_add-covered-in-loop-i : goal.overflow_add-covered-in-loop-i
overflow_add-covered-in-loop-i c = omega (arith, turn_near (turn c.requires (omega arith) c.loop-i.invariant c.point_of-q.ensures c.point-inner.ensures c.from-far.ensures))

pub overflow_cast-covered : goal.overflow_cast-covered
overflow_cast-covered c = omega (arith, turn_near (turn c.requires (omega arith) c.loop-i.invariant c.point_of-q.ensures c.point-inner.ensures c.from-far.ensures))

pub loop-i-preserved : goal.loop-i-preserved
loop-i-preserved c =
    let t = turn c.requires (omega arith) c.loop-i.invariant c.point_of-q.ensures c.point-inner.ensures c.from-far.ensures in
    (turn-way t, c.put.ensures ∙ recovered _ c.point_of-q.result c.point-inner.ensures _ _ ∙ cover_more t)
