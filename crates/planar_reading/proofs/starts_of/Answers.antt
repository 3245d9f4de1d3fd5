-- `planar_reading::starts_of` meets its contract: the array begins with the ends of the lists before the next byte, and d neighbours stand before it.
use Rattle.std.proofs.Common.{ℕ, List, ◌∷◌, ◌<◌, ◌≤◌, ◌≡◌, true, refl, ap, ◌∙◌, arith, length, length-set}
use Rattle.planar_rules.specs.PlanarCode.{ends, lists?}
use Rattle.planar_reading.specs.Laws.{nbr-zero, nbr_more, end-zero, end_more, end-done, ends-length, fill_from_one, fill_one, fill_next, fill_same, fill_end}
use Rattle.planar_reading.proofs.starts_of.Goals as goal
use Rattle.planar_reading.proofs.starts_of.Goals.{then-c-eq0, else-c-eq0}

-- the ends fit
room : (n : ℕ) (bs off : List ℕ) → n < 256 → lists? n n bs ≡ true → length off ≡ 257 → length (0 ∷ ends 0 bs) ≤ length off
room n bs off l t e = omega (arith, ends-length n n 0 bs t)

pub loop-c-init : goal.loop-c-init
loop-c-init c = (refl, omega arith, fill_from_one _ 257 (omega arith))

pub bounds-starts-v : goal.bounds-starts-v
bounds-starts-v c =
    let l = c.loop-c in
    let one = end-zero c.args.lists.now l.c-index (omega arith) l.d c.if-c-eq0.true in
    omega (arith, fill_one l.invariant.2 one (room c.args.n c.args.lists.now l.starts (omega arith) c.requires.0 l.invariant.0), l.invariant.0)

pub loop-c-preserved : goal.loop-c-preserved
loop-c-preserved c =
    let l = c.loop-c in
    let bs = c.args.lists.now in
    let il : l.c-index < length bs = omega arith in
    elim c.if-c-eq0.branch [
      | then-c-eq0 w ↦ rw (w.starts-is, w.v-is, w.d-is) (
        length-set l.starts l.v _ ∙ l.invariant.0,
        omega (arith, l.invariant.1, ap length (nbr-zero bs l.c-index il w.if-c-eq0.true)),
        fill_next l.invariant.2 (end-zero bs l.c-index il l.d w.if-c-eq0.true) (room c.args.n bs l.starts (omega arith) c.requires.0 l.invariant.0),
      )
      | else-c-eq0 w ↦ rw (w.starts-is, w.v-is, w.d-is) (
        l.invariant.0,
        omega (arith, l.invariant.1, ap length (nbr_more bs l.c-index il (omega (arith, w.if-c-eq0.false)))),
        fill_same l.invariant.2 (end_more bs l.c-index il l.d (omega (arith, w.if-c-eq0.false))),
      )
    ]

pub returns : goal.returns
returns c = fill_end c.loop-c.invariant.2 (end-done c.args.lists.now c.loop-c.c-index (omega arith) c.loop-c.d)
