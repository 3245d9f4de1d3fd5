-- The calls start from the drawing as opened.
use Rattle.calls.proofs.Outcomes.{begun}
use Rattle.calls.proofs.draw_calls.Goals as goal

pub all_calls-requires : goal.all_calls-requires
all_calls-requires c = begun _ c.requires.0 c.open_in.ensures
