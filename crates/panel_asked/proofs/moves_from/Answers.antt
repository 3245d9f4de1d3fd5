-- `moves_from` meets its contract.
use Rattle.store_looking.specs.Places.{settleable}
use Rattle.panel_asked.proofs.moves_from.Goals as goal

pub settled-x-requires : goal.settled-x-requires
settled-x-requires c = settleable (c.requires c.in_ok-drawn.was).is
