-- One point more, and none.
use Rattle.std.proofs.Common.{◌≡◌, suc, ◌-◌, sym, ◌∙◌, arith}
use Rattle.store_tables.specs.Tables.{arrays_in}
use Rattle.store_settling.specs.Hang.{hung_none, hung-go, hangs-go}
use Rattle.store_settling.proofs.hang.Goals as goal

pub hang_one-requires : goal.hang_one-requires
hang_one-requires c =
    let a = arrays_in c.args.table.now in
    let e : c.loop-p.p ≡ suc (c.loop-p.p - 1) = omega arith in
    (omega arith, (hangs-go a.gap a.owner e c.loop-p.x c.loop-p.invariant.1).0)

pub loop-p-preserved : goal.loop-p-preserved
loop-p-preserved c =
    let a = arrays_in c.args.table.now in
    let p = c.loop-p.p - 1 in
    let e : c.loop-p.p ≡ suc (c.loop-p.p - 1) = omega arith in
    let h = c.hang_one.ensures in (
      omega arith,
      rw h (hangs-go a.gap a.owner e c.loop-p.x c.loop-p.invariant.1).1,
      rw h (sym (hung-go a.gap a.owner e c.loop-p.x) ∙ c.loop-p.invariant.2),
    )

pub returns : goal.returns
returns c =
    let a = arrays_in c.args.table.now in
    let n : c.loop-p.p ≡ 0 = omega arith in
    sym (hung_none a.gap a.owner c.loop-p.x n) ∙ c.loop-p.invariant.2
