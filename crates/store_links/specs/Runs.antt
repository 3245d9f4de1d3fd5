-- What the entries of a judged call are known to be.
use Rattle.std.specs.Prelude.{ℕ, ◌<◌, ◌≤◌, ◌≢◌, List, length}
use Rattle.store_links.specs.Placing.{entry_point}

-- their points are placed, among k points
pub record Within (k : ℕ) (es : List ℕ) : Type 0 where
  pub low : (i : ℕ) → i < length es → 0 < entry_point es i
  pub high : (i : ℕ) → i < length es → entry_point es i ≤ k

-- no point stands there twice
pub record Distinct (es : List ℕ) : Type 0 where
  pub differ : (i j : ℕ) → i < j → j < length es → entry_point es i ≢ entry_point es j
