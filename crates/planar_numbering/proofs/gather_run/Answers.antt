-- `planar_numbering::gather_run` meets its contract: those from d0 up to `at` stand in entries from e up to s.
use Rattle.std.proofs.Common.{sym, ◌∙◌}
use Rattle.planar_numbering.specs.Gathering.{gather-begin, gather_on, gather-end}
use Rattle.planar_numbering.proofs.gather_run.Goals as goal

pub loop-d0-init : goal.loop-d0-init
loop-d0-init c = gather-begin c.requires.0

pub returns-then-u-left : goal.returns-then-u-left
returns-then-u-left c = rw c.neighbour-u.ensures (gather-end c.loop-d0.invariant c.requires.1 (sym c.neighbour-u.ensures ∙ c.if-u-left.true))

pub loop-d0-preserved : goal.loop-d0-preserved
loop-d0-preserved c = rw (c.after-at.ensures, c.neighbour-u.ensures) (gather_on c.loop-d0.invariant c.requires.1 (λ q. c.if-u-left.false (c.neighbour-u.ensures ∙ q)))
