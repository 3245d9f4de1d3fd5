-- `read_start::read_head` meets its contract.
use Rattle.std.specs.Prelude.{ℕ}
use Rattle.std.proofs.Common.{sym, subst}
use Rattle.rules.specs.Results.{handed_on}
use Rattle.read_start.specs.Heading.{ScaleRead}
use Rattle.read_start.proofs.Heads.{bad_head, head_out, head-scale}
use Rattle.read_start.proofs.read_head.Goals as goal

pub returns-in_err-n : goal.returns-in_err-n
returns-in_err-n c = rw (handed_on c.from_residual.result _ c.from_residual.ensures.1) (bad_head c.args.f.now _ _ c.in_err-n.ensures)

pub returns-then-not-lies : goal.returns-then-not-lies
returns-then-not-lies c = rw c.at.ensures (head_out c.args.f.now _ c.in_ok-n.ensures.1 (sym c.if-not-lies.ensures))

pub returns : goal.returns
returns c =
    head-scale _ _ c.in_ok-n.ensures.1 c.read_scale.result (sym c.if-not-lies.ensures)
    (subst (λ (n : ℕ). ScaleRead c.args.f.now n c.read_scale.result) c.from.ensures c.read_scale.ensures)
