-- `planar::judge` meets its contract: 15 for any file that the net is of.
use Rattle.std.proofs.Common.{sym, ◌∙◌}
use Rattle.planar.specs.Net.{held-refused}
use Rattle.planar.proofs.judge.Goals as goal

pub returns-then-not-taken-clause-refusal : goal.returns-then-not-taken-clause-refusal
returns-then-not-taken-clause-refusal c =
    λ file h. rw c.at.ensures (held-refused h (sym c.taken.ensures ∙ c.if-not-taken.true))
