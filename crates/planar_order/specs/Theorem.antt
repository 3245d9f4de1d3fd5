-- What the rules promise of the points (that a file that passes the tests yields such an order, `always`, is in proofs/).
use Rattle.std.specs.Prelude.{ℕ, ◌+◌, ◌*◌, ◌<◌, ◌≡◌, List, [], ◌∷◌, map, length, get_or}
use Rattle.rules.specs.Basics.{index_of}
use Rattle.planar_rules.specs.PlanarCode.{Flat, Point, first, second, points, vertices, point_of}
use Rattle.planar_order.specs.Model.{Stands, Distinct}
use Rattle.planar_order.specs.Numbering.{AllLines, total}

abbrev pub entries_of : List ℕ → List Point → List (List ℕ)
entries_of vs ps = map (λ p. map (point_of vs) p.entries) ps

pub record Ordered (f : Flat) : Type 0 where
  -- points 3, 4, .., n
  pub rest : List Point
  pub points_are : points f ≡ record { vertex = first; entries = [] } ∷ record { vertex = second f; entries = first ∷ [] } ∷ rest
  -- every vertex is numbered, and once
  pub count_is : length (vertices (points f)) ≡ f.n
  pub are_vertices : (i : ℕ) → i < f.n → get_or (vertices (points f)) i 0 < f.n
  pub once : Distinct (vertices (points f))
  pub every : (x : ℕ) → x < f.n → (index_of x (vertices (points f)) < f.n) × (get_or (vertices (points f)) (index_of x (vertices (points f))) 0 ≡ x)
  -- each point stands over a run of the boundary, and the last over all of it
  pub stands : Stands 2 (1 ∷ 2 ∷ []) (entries_of (vertices (points f)) rest) (1 ∷ f.n ∷ 2 ∷ [])
  -- with the one of point 2 there are 3n - 6 entries
  pub entries-total : total rest + 7 ≡ 3 * f.n
  -- the entries are the net's lines
  pub lines : AllLines f rest
