-- WISH 4 on the command line: a program that prints the order file of a net in planar_code, and one that prints its vertices by point, one a line.
use Rattle.std.specs.Prelude.{ℕ, ◌+◌, ◌-◌, ◌*◌, ◌≡◌, refl, List, [], ◌∷◌, ◌++◌, take}
use Rattle.rules.specs.Refusals.{good, ◌>>=◌}
use Rattle.rules.specs.Decimal.{digits}
use Rattle.rules.specs.Output.{judged_bytes, printed}
use Rattle.planar_rules.specs.PlanarCode.{most_vertices, imported, order_of, list_of}

-- A file that is taken has 7n + 4 bytes, and its order file 10n - 6 (`planar_drawn`'s Sizes): so many at most.
abbrev pub longest_net : ℕ
longest_net = 7 * most_vertices + 4

abbrev pub longest_import : ℕ
longest_import = 10 * most_vertices - 6

-- As of the drawing program, the first 32,768 bytes of the input are judged as the whole file. Lists may repeat, so a file that is refused can be
-- of any length; one that is taken is much shorter than that.
abbrev pub import_program : List ℕ → List ℕ
import_program input = printed (order_of (imported (take judged_bytes input)))

-- a vertex's number in decimal and a line feed
abbrev pub vertex_line : ℕ → List ℕ
vertex_line v = digits v ++ (10 ∷ [])

abbrev pub vertex_lines : List ℕ → List ℕ
vertex_lines [] = []
vertex_lines (v ∷ vs) = vertex_line v ++ vertex_lines vs

-- line p has the vertex of point p, as the file counts it, from 1
abbrev pub vertices_program : List ℕ → List ℕ
vertices_program input = printed (list_of (imported (take judged_bytes input)) >>= λ vs. good (vertex_lines vs))

-- worked: "1", "20" and "255"
pub worked_vertices : vertex_lines (1 ∷ 20 ∷ 255 ∷ []) ≡ 49 ∷ 10 ∷ 50 ∷ 48 ∷ 10 ∷ 50 ∷ 53 ∷ 53 ∷ 10 ∷ []
unfolding digits
worked_vertices = refl
