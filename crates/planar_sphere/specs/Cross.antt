-- Chords of the boundary (that they do not cross, and that one boundary point has none, is in proofs/).
use Rattle.std.specs.Prelude.{ℕ, ◌+◌, ◌<◌, ◌≡◌, ◌≢◌, ◌⊎◌}
use Rattle.planar_sphere.specs.Map.{Map, end}
use Rattle.planar_sphere.specs.Shell.{Shell}

-- the a-th boundary point is joined to a boundary point other than its two neighbours there
pub record Chord (g : Map) (h : Shell) (a : ℕ) : Type 0 where
  pub e : ℕ
  pub l : ℕ
  pub e_in : e < g.D
  pub l_in : l < h.m
  pub from : g.org e ≡ g.org (h.b a)
  pub to : end g e ≡ g.org (h.b l)
  pub next : l ≢ a + 1
  pub prev : l + 1 ≢ a

abbrev pub Chordless : Map → Shell → ℕ → Type 0
Chordless g h a = (e l : ℕ) → e < g.D → l < h.m → g.org e ≡ g.org (h.b a) → end g e ≡ g.org (h.b l) → (l ≡ a + 1) ⊎ (l + 1 ≡ a)
