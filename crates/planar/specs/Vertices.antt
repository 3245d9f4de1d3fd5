-- The vertices of a net that is taken are below n: all entries, and those in the array of points.
use Rattle.std.specs.Prelude.{ℕ, suc, ◌<◌, ◌≤◌, ◌≡◌, List, [], ◌∷◌, map, length, get_or, take, drop, replicate}
use Rattle.std.proofs.Common.{ap, sym, ◌∙◌, subst, arith, get_or-take}
use Rattle.std.proofs.lemmas.List.{length-replicate}
use Rattle.planar_rules.specs.PlanarCode.{Flat, Point, points, vertices, vertex_list, first, second}
use Rattle.planar_order.specs.Numbering.{AllLines, more as another}
use Rattle.planar_order.specs.Theorem.{Ordered}
use Rattle.planar_reading.specs.Laws.{zeros}
use Rattle.planar_reading.specs.Reads.{net_in}
use Rattle.planar_reading.specs.declared.net.Net.{Net}
use Rattle.planar_numbering.specs.Numbered.{AllNumbered}
use Rattle.planar.specs.Net.{TakenIn, its_order}
use Rattle.planar.specs.Numbered.{vertices_in}

-- an array of so many zeros
pub record Zeros (size : ℕ) (l : List ℕ) : Type 0 where
  pub long : length l ≡ size
  pub zero_at : (j : ℕ) → get_or l j 0 ≡ 0

pub zeros_in : (size : ℕ) → Zeros size (replicate size 0)
zeros_in size = record { long = length-replicate {A = ℕ} size 0; zero_at = zeros size }

-- all entries are vertices below n
pub data Within (n : ℕ) : List Point → Type 0 where
  none : Within n []
  more : {p : Point} {ps : List Point} → ((x : ℕ) → x < length p.entries → get_or p.entries x 0 < n) → Within n ps → Within n (p ∷ ps)

pub within-lines : (f : Flat) → ((d : ℕ) → d < f.D → f.nbr d < f.n) → (ps : List Point) → AllLines f ps → Within f.n ps
within-lines f h [] a = none
within-lines f h (p ∷ ps) (another l a) = more {p = p} (λ x xl. let w = l.is_line x xl in subst (λ v. v < f.n) w.3 (h w.0 w.1)) (within-lines f h ps a)

-- ---- the points of a net that is taken

module _ {file : List ℕ} {net : Net} (t : TakenIn file net) where
  abbrev f : Flat
  f = net_in net

  abbrev n : ℕ
  n = f.n

  order : Ordered f
  order = its_order t

  pub n_byte : n ≤ 255
  n_byte = net.kept.byte

  pub within : Within n (points f)
  within =
      rw order.points_are
      (more {p = record { vertex = first; entries = [] }} (λ x xl. absurd (omega arith))
      (more {p = record { vertex = second f; entries = first ∷ [] }} (λ x xl. let e : x ≡ 0 = omega arith in rw e (omega (arith, net.kept.some)))
      (within-lines f (λ d dl. net.kept.nbrs d dl) order.rest order.lines)))

  module _ {ver ln ent : List ℕ} {s : ℕ} (a : AllNumbered f ver ln ent s) where
    ver_is : take n ver ≡ vertices (points f)
    ver_is = sym (vertices_in ver ln 0 n (drop s ent) (omega (arith, a.ver_size, n_byte))) ∙ ap vertices a.all

    ver_at : (x : ℕ) → x < n → get_or (vertices (points f)) x 0 ≡ get_or ver x 0
    ver_at x xl = ap (λ l. get_or l x 0) (sym ver_is) ∙ get_or-take n ver x 0 xl

    -- vertices are bytes less 1
    pub ver_small : (x : ℕ) → x < n → get_or ver x 0 < 255
    ver_small x xl = omega (arith, sym (ver_at x xl), order.are_vertices x xl, n_byte)

    -- THE LIST
    pub list_is : map suc (take n ver) ≡ vertex_list (points f)
    list_is = ap (map suc) ver_is
