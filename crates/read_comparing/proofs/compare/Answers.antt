-- `read_comparing::compare` meets its contract: files that are the same have no byte that differs, and others end where no shared byte does.
use Rattle.std.proofs.Common.{◌≡◌, arith}
use Rattle.std.specs.Cmp.Lexicographic.{same_text, other_text}
use Rattle.rules.specs.Same.{compare_same}
use Rattle.read_comparing.specs.Comparing.{shared_same}
use Rattle.read_comparing.proofs.compare.Goals as goal

pub returns-then-eq : goal.returns-then-eq
returns-then-eq c = rw (same_text c.args.a.now c.args.b.now c.if-eq.ensures, compare_same 0 c.args.b.now)

pub returns : goal.returns
returns c =
    let end : c.loop-i.i ≡ c.min-shared.result = omega (arith, c.loop-i.auto.i-end, c.loop-i-test.false) in
    let so_far = rw end at c.loop-i.invariant in
    rw (c.at-2.ensures, shared_same c.args.a.now c.args.b.now _ (other_text c.args.a.now c.args.b.now c.if-eq.ensures) c.min-shared.ensures so_far)
