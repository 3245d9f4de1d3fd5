-- The words of the order file, from the numbered points; b has the vertices by point.
use Rattle.std.specs.Prelude.{ℕ, zero, suc, ◌*◌, ◌<◌, ◌≤◌, List, [], ◌∷◌, ◌++◌, map, length, get_or, take, drop}
use Rattle.planar_numbering.specs.Points.{Fitting}
use Rattle.rules.specs.Records.{order_mark, entries_mark, end_mark}
use Rattle.planar_rules.specs.PlanarCode.{point_of}

-- the point numbers of some vertices
abbrev pub numbers_of : List ℕ → List ℕ → List ℕ
numbers_of b vs = map (λ v. point_of b v) vs

-- the record of a point with the entries es
abbrev pub point_words : List ℕ → List ℕ → List ℕ
point_words b es = entries_mark ∷ length es ∷ numbers_of b es

-- the records of c points: ln has their numbers of entries from i on, and l all their entries
unfoldable pub points_words : List ℕ → List ℕ → ℕ → ℕ → List ℕ → List ℕ
points_words b ln i zero l = []
points_words b ln i (suc c) l = point_words b (take (get_or ln i 0) l) ++ points_words b ln (suc i) c (drop (get_or ln i 0) l)

-- the whole file
abbrev pub order_words : List ℕ → List ℕ → List ℕ → List ℕ
order_words b ln l = order_mark ∷ length b ∷ (points_words b ln 0 (length b) l ++ (end_mark ∷ []))

-- the arrays of the numbered points, and room for both outputs
pub record Puttable (order list b ln ent : List ℕ) (s : ℕ) : Type 0 where
  pub fits : Fitting ln 0 (length b) (drop s ent)
  pub small : (i : ℕ) → i < length b → get_or b i 0 < 255
  pub order-room : 2 * length (order_words b ln (drop s ent)) ≤ length order
  pub list-room : length b ≤ length list
