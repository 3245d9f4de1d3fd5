-- `planar_reading::Net::after` meets its contract: behind the last place of a list comes its first.
use Rattle.std.proofs.Common.{◌∙◌, sym, eq-eqb, ne_eqb}
use Rattle.planar_rules.specs.PlanarCode.{after}
use Rattle.planar_reading.proofs.net.Net.after.Goals as goal

pub returns-then-d-end : goal.returns-then-d-end
unfolding after
returns-then-d-end c = rw (eq-eqb _ _ (c.if-d-end.true ∙ c.end.ensures)) c.start.ensures

pub returns-else-d-end : goal.returns-else-d-end
unfolding after
returns-else-d-end c = rw (ne_eqb _ _ (λ e. c.if-d-end.false (e ∙ sym c.end.ensures)))
