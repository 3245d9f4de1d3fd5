-- THE NET IS THE SAME: the points of a drawing are the vertices of the file's net, and its lines join the points whose vertices are neighbours there. (That it is, `same_net`, is in proofs/.)
use Rattle.std.specs.Prelude.{ℕ, ◌*◌, ◌<◌, ◌≤◌, ◌≡◌, ◌⊎◌, length}
use Rattle.rules.specs.Basics.{nth}
use Rattle.rules.specs.Points.{Drawing, line_at}
use Rattle.promise.specs.Promise.{IsLine}
use Rattle.planar_rules.specs.PlanarCode.{Flat, points, vertices}
use Rattle.planar_drawn.specs.Named.{Neighbour}

-- Points p and q are joined in the drawing: one of its lines has one of them as its later point and the other as its earlier point.
pub record Joined (d : Drawing) (p q : ℕ) : Type 0 where
  pub line : ℕ
  pub is_line : IsLine d line
  pub ends : (((line_at d line).later ≡ p) × ((line_at d line).earlier ≡ q)) ⊎ (((line_at d line).later ≡ q) × ((line_at d line).earlier ≡ p))

-- p is a point of the drawing
abbrev pub IsPoint : Drawing → ℕ → Type 0
IsPoint d p = (0 < p) × (p ≤ d.k)

-- the vertex of point p, as the import numbers them
abbrev pub vertex_of : Flat → ℕ → ℕ
vertex_of f p = nth (vertices (points f)) p 0

pub record SameNet (f : Flat) (d : Drawing) : Type 0 where
  -- it has a point for each vertex: each point has one, and each vertex is that of exactly one point
  pub size : d.k ≡ f.n
  pub vertex : (p : ℕ) → IsPoint d p → vertex_of f p < f.n
  pub once : (p q : ℕ) → IsPoint d p → IsPoint d q → vertex_of f p ≡ vertex_of f q → p ≡ q
  pub every-vertex : (v : ℕ) → v < f.n → (p : ℕ) × IsPoint d p × (vertex_of f p ≡ v)
  -- two points are joined exactly if their vertices are neighbours
  pub joined : (p q : ℕ) → IsPoint d p → IsPoint d q → Joined d p q → Neighbour f (vertex_of f p) (vertex_of f q)
  pub neighbours : (p q : ℕ) → IsPoint d p → IsPoint d q → Neighbour f (vertex_of f p) (vertex_of f q) → Joined d p q
  -- and there are no more lines than that: each has two places in the file
  pub as_many : 2 * length d.lines ≡ f.D
