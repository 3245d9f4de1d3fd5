-- How a drawing that a file describes was built: the entries of points 2 and 3, then those of the points after them, in order.
use Rattle.std.specs.Prelude.{ℕ, ◌<◌, ◌≤◌, ◌≡◌, List, [], ◌∷◌, length, get_or}
use Rattle.rules.specs.declared.Style.{Style}
use Rattle.rules.specs.declared.Entry.{Entry}
use Rattle.rules.specs.Basics.{snoc}
use Rattle.rules.specs.Refusals.{good}
use Rattle.rules.specs.Points.{Drawing}
use Rattle.rules.specs.Adding.{points_of, add_entries}
use Rattle.rules.specs.OrderFile.{start_with}

pub data Built (τ : Style) (n s : ℕ) (second third : List Entry) : List (List Entry) → Drawing → Type 0 where
  begun : points_of second ≡ 1 ∷ [] → points_of third ≡ 1 ∷ 2 ∷ [] → Built τ n s second third [] (start_with τ n s second third)
  added : {ess : List (List Entry)} {d e : Drawing} (es : List Entry) → Built τ n s second third ess d → add_entries d es ≡ good e → Built τ n s second third (snoc ess es) e

-- a drawing that was built so, for n from 3 to 1,024 and a scale from 1 to 8: what opening and calls give, and what an order file gives
pub record Reached (d : Drawing) : Type 0 where
  pub second : List Entry
  pub third : List Entry
  pub rest : List (List Entry)
  pub built : Built d.style d.n d.s second third rest d
  pub low : 3 ≤ d.n
  pub high : d.n ≤ 1024
  pub scale : (1 ≤ d.s) × (d.s ≤ 8)

-- and that is finished
pub record Whole (d : Drawing) : Type 0 where
  pub reached : Reached d
  pub full : d.k ≡ d.n

-- a list of bytes
pub record Bytes (bs : List ℕ) : Type 0 where
  pub byte : (i : ℕ) → i < length bs → get_or bs i 0 < 256
