-- `printing_move::put_move` meets its contract, by cases on the move.
use Rattle.printing_move.specs.Lines.{travel_line, plunge_line, cut_line_lem, lift_line}
use Rattle.printing_move.proofs.put_move.Goals as goal

pub returns-in-Travel-clause-exact : goal.returns-in-Travel-clause-exact
returns-in-Travel-clause-exact c = rw c.in-Travel.is (travel_line c.text.ensures c.put_pair.ensures.exact)

pub returns-in-Plunge-clause-exact : goal.returns-in-Plunge-clause-exact
returns-in-Plunge-clause-exact c = rw c.in-Plunge.is (plunge_line c.text-in-Plunge.ensures c.put_height.ensures.exact)

pub returns-in-Cut-clause-exact : goal.returns-in-Cut-clause-exact
returns-in-Cut-clause-exact c = rw c.in-Cut.is (cut_line_lem c.text-in-Cut.ensures c.put_pair-in-Cut.ensures.exact)

pub returns-in-Lift-clause-exact : goal.returns-in-Lift-clause-exact
returns-in-Lift-clause-exact c = rw c.in-Lift.is (lift_line c.text-in-Lift.ensures c.put_height-in-Lift.ensures.exact)
