-- `draw_in` of a list of calls meets its contract.
use Rattle.panel_asked.specs.Asking.{has-drew}
use Rattle.panel_doors.specs.Sources.{drew-ran}
use Rattle.panel_doors.proofs.CallsSource.draw_in.Goals as goal

pub returns-clause-has : goal.returns-clause-has
returns-clause-has c = has-drew _ (drew-ran _ _ c.run_in.ensures.ran).2

pub returns-clause-drew : goal.returns-clause-drew
returns-clause-drew c = drew-ran _ _ c.run_in.ensures.ran
