-- `printing_move::put_pair` meets its contract: two numbers with a blank between them, and the line's end.
use Rattle.pages.specs.Pages.{grown_both}
use Rattle.printing_move.proofs.put_pair.Goals as goal

pub returns-clause-exact : goal.returns-clause-exact
returns-clause-exact c a b h h' v v' =
    rw (← c.eighths.ensures.is a h v, ← c.eighths-2.ensures.is b h' v')
    (grown_both c.put_millimetres.ensures.exact (grown_both c.text.ensures (grown_both c.put_millimetres-2.ensures.exact c.text-2.ensures)))
