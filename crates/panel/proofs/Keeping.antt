-- A drawing that is read from a file keeps the promise of its style.
use Rattle.exchange.specs.Kept.{read_keeps, drawing-read_keeps}

pub ruleset keeping = (read_keeps, drawing-read_keeps)
