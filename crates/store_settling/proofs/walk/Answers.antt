-- What is left to walk with the x of now gives what all gives with the x at entry.
use Rattle.std.proofs.Common.{ℕ, pred, ◌+◌, ◌-◌, ◌<◌, ◌≤◌, ◌≡◌, suc, sym, ap, ◌∙◌, List, sub-one, arith}
use Rattle.store_links.specs.Arrays.{at_point}
use Rattle.store_tables.specs.declared.Point.{Point}
use Rattle.store_tables.specs.Tables.{arrays_in}
use Rattle.store_settling.specs.Walk.{Walks, walked-past, walked_none, walked-go, walks-go}
use Rattle.store_settling.proofs.walk.Goals as goal

-- what the walk is known to be at the point p
turn : (next gap : List ℕ) (at : ℕ) {left p : ℕ} → 0 < left → 0 < p → Walks next gap left p at →
    (p ≤ 1024) × (at + at_point gap p < 65536) × Walks next gap (left - 1) (at_point next p) (at + at_point gap p)
turn next gap at {left} {p} l n w =
    let steps : left ≡ suc (left - 1) = omega arith in
    let point : p ≡ suc (pred p) = omega arith in
    let t = walks-go next gap steps point at w in
    (omega (arith, t.0), t.1, t.2)

pub returns-then-p-eq0 : goal.returns-then-p-eq0
returns-then-p-eq0 c =
    let a = arrays_in c.args.table.now in
    sym (walked-past a.next a.gap (c.args.k - c.loop-step._step) c.loop-step.p c.loop-step.at c.loop-step.x c.if-p-eq0.true) ∙ c.loop-step.invariant.1

pub point-point-requires : goal.point-point-requires
point-point-requires c = omega (arith, (turn (arrays_in c.args.table.now).next (arrays_in c.args.table.now).gap c.loop-step.at (omega arith) (omega arith) c.loop-step.invariant.0).0)

pub overflow_add-at : goal.overflow_add-at
overflow_add-at c = omega (arith, (turn (arrays_in c.args.table.now).next (arrays_in c.args.table.now).gap c.loop-step.at (omega arith) (omega arith) c.loop-step.invariant.0).1, c.from-at.ensures ∙ ap (λ (q : Point). q.gap) c.point-point.ensures)

pub overflow_cast-x : goal.overflow_cast-x
overflow_cast-x c = omega (arith, (turn (arrays_in c.args.table.now).next (arrays_in c.args.table.now).gap c.loop-step.at (omega arith) (omega arith) c.loop-step.invariant.0).1, c.from-at.ensures ∙ ap (λ (q : Point). q.gap) c.point-point.ensures)

pub offset_bounds-x-p : goal.offset_bounds-x-p
offset_bounds-x-p c = omega (arith, (turn (arrays_in c.args.table.now).next (arrays_in c.args.table.now).gap c.loop-step.at (omega arith) (omega arith) c.loop-step.invariant.0).0)

pub bounds-x-p : goal.bounds-x-p
bounds-x-p c = omega (arith, (turn (arrays_in c.args.table.now).next (arrays_in c.args.table.now).gap c.loop-step.at (omega arith) (omega arith) c.loop-step.invariant.0).0)

pub loop-step-preserved : goal.loop-step-preserved
loop-step-preserved c =
    let a = arrays_in c.args.table.now in
    let p = c.loop-step.p in
    let t = turn a.next a.gap c.loop-step.at (omega arith) (omega arith) c.loop-step.invariant.0 in
    let gone = c.from-at.ensures ∙ ap (λ (q : Point). q.gap) c.point-point.ensures in
    let went = c.from-p-in-loop-step.ensures ∙ ap (λ (q : Point). q.next) c.point-point.ensures in
    let steps : c.args.k - c.loop-step._step ≡ suc (c.args.k - c.loop-step._step - 1) = omega arith in
    let point : p ≡ suc (pred p) = omega (arith, c.if-p-eq0.false) in
    let less : c.args.k - (c.loop-step._step + 1) ≡ c.args.k - c.loop-step._step - 1 = omega arith in (
      rw (less, went, gone) t.2,
      rw (less, went, gone, sub-one p) (sym (walked-go a.next a.gap steps point c.loop-step.at c.loop-step.x) ∙ c.loop-step.invariant.1),
    )

pub returns : goal.returns
returns c =
    let a = arrays_in c.args.table.now in
    let n : c.args.k - c.loop-step._step ≡ 0 = omega arith in
    sym (walked_none a.next a.gap c.loop-step.p c.loop-step.at c.loop-step.x n) ∙ c.loop-step.invariant.1
