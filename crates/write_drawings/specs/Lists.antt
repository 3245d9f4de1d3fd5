-- The drawing file as the settled x and the arrays give it, in either style: each record's bytes.
use Rattle.std.specs.Prelude.{ℕ, zero, suc, ◌+◌, ◌*◌, List, [], ◌∷◌, ◌++◌, get_or, take}
use Rattle.rules.specs.declared.Style.{Style}
use Rattle.rules.specs.declared.Line.{Line}
use Rattle.rules.specs.declared.Place.{Place}
use Rattle.rules.specs.Records.{written, drawing_head, point_place, line_shape, end_shape}
use Rattle.rules.specs.DrawingFile.{highest, line_words}
use Rattle.store_links.specs.declared.Counts.{Counts}
use Rattle.store_links.specs.Arrays.{Arrays}
use Rattle.store_settling.specs.Bends.{bend_in}
use Rattle.store_links.specs.Opening.{no_line}

-- the bytes f 0, .., f (i - 1), one behind the other
unfoldable pub several : (ℕ → List ℕ) → ℕ → List ℕ
several f zero = []
several f (suc i) = several f i ++ f i

-- f from i on
abbrev pub starting : (ℕ → List ℕ) → ℕ → ℕ → List ℕ
starting f i j = f (i + j)

-- the record of the point at index i
abbrev pub point_bytes : ℕ → List ℕ → List ℕ → ℕ → List ℕ
point_bytes s x ys i = written point_place (s * get_or x i 0 ∷ s * get_or ys i 0 ∷ [])

-- where a line bends
abbrev pub bend_at : List ℕ → Arrays → Line → Place
bend_at x a l = bend_in x a l.later l.earlier l.bend

-- the record of line e
unfoldable pub line_bytes : Style → ℕ → List ℕ → Arrays → ℕ → List ℕ
line_bytes τ s x a e = written (line_shape τ) (line_words τ s (get_or a.lines e no_line) (bend_at x a (get_or a.lines e no_line)))

-- the header, and the records of all points
unfoldable pub head_bytes : List ℕ → Arrays → Counts → List ℕ
head_bytes x a c =
    written (drawing_head c.style) (c.n ∷ c.s ∷ c.s * get_or x 1 0 ∷ c.s * highest (take c.k a.ys) ∷ []) ++
    several (point_bytes c.s x a.ys) c.k

-- the whole file
unfoldable pub file_bytes : List ℕ → Arrays → Counts → List ℕ
file_bytes x a c = head_bytes x a c ++ (several (line_bytes c.style c.s x a) c.lines ++ written end_shape [])
