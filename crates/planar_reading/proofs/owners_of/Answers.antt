-- `planar_reading::owners_of` meets its contract: the array begins with the owners before the next byte, which stands in v's list.
use Rattle.std.proofs.Common.{ℕ, List, ◌+◌, ◌-◌, ◌<◌, ◌≤◌, ◌≡◌, refl, ◌∙◌, arith, length, length-set}
use Rattle.planar_rules.specs.PlanarCode.{neighbours, owners}
use Rattle.planar_reading.specs.Laws.{own-zero, own_more, own-done, owners-length, left_some, left_zero, left_more, fill_begin, fill_one, fill_next, fill_same, fill_end}
use Rattle.planar_reading.proofs.owners_of.Goals as goal
use Rattle.planar_reading.proofs.owners_of.Goals.{then-c-eq0, else-c-eq0}

-- the owners fit
room : (bs own : List ℕ) → length (neighbours bs) ≤ 1536 → length own ≡ 1536 → length (owners 0 bs) ≤ length own
room bs own h e = omega (arith, owners-length 0 bs)

pub loop-c-init : goal.loop-c-init
loop-c-init c = let e : c.args.n ≡ c.args.n - 0 = omega arith in (refl, omega arith, rw (← e) c.requires.0, fill_begin _ 1536)

pub overflow_add-v : goal.overflow_add-v
overflow_add-v c =
    let a = c.args in
    omega (arith, left_some a.n a.lists.now c.loop-c.c-index (omega arith) (a.n - c.loop-c.v) c.loop-c.invariant.2, c.ranges.n)

pub bounds-owners-d : goal.bounds-owners-d
bounds-owners-d c =
    let l = c.loop-c in
    let one = own_more c.args.lists.now l.c-index (omega arith) l.v (omega (arith, c.if-c-eq0.false)) in
    omega (arith, fill_one l.invariant.3 one (room c.args.lists.now l.owners c.requires.1 l.invariant.0), l.invariant.0)

pub loop-c-preserved : goal.loop-c-preserved
loop-c-preserved c =
    let l = c.loop-c in
    let n = c.args.n in
    let bs = c.args.lists.now in
    let il : l.c-index < length bs = omega arith in
    let some = left_some n bs l.c-index il (n - l.v) l.invariant.2 in
    elim c.if-c-eq0.branch [
      | then-c-eq0 w ↦ let e : n - l.v - 1 ≡ n - (l.v + 1) = omega arith in
          rw (w.owners-is, w.v-is, w.d-is) (
            l.invariant.0,
            omega arith,
            (rw e at (left_zero n bs l.c-index il (n - l.v) l.invariant.2 w.if-c-eq0.true)),
            fill_same l.invariant.3 (own-zero bs l.c-index il l.v w.if-c-eq0.true),
          )
      | else-c-eq0 w ↦ rw (w.owners-is, w.v-is, w.d-is) (
        length-set l.owners l.d _ ∙ l.invariant.0,
        l.invariant.1,
        left_more n bs l.c-index il (n - l.v) l.invariant.2 (omega (arith, w.if-c-eq0.false)),
        fill_next l.invariant.3 (own_more bs l.c-index il l.v (omega (arith, w.if-c-eq0.false))) (room bs l.owners c.requires.1 l.invariant.0),
      )
    ]

pub returns : goal.returns
returns c = fill_end c.loop-c.invariant.3 (own-done c.args.lists.now c.loop-c.c-index (omega arith) c.loop-c.v)
