-- What writing asks: the arrays and numbers are those of a finished drawing, and every number that is written fits 16 bits.
use Rattle.std.specs.Prelude.{ℕ, ◌+◌, ◌*◌, ◌<◌, ◌≤◌, ◌≡◌, List, length, get_or, take}
use Rattle.rules.specs.declared.Style.{Style}
use Rattle.rules.specs.declared.Line.{Line}
use Rattle.rules.specs.Points.{Drawing}
use Rattle.rules.specs.DrawingFile.{drawing_bytes}
use Rattle.store_links.specs.declared.Counts.{Counts}
use Rattle.store_links.specs.Arrays.{Arrays}
use Rattle.store_laws.specs.Adding.{Holds}
use Rattle.store_settling.specs.Bends.{Bendable}
use Rattle.store_links.specs.Opening.{no_line}
use Rattle.rules.specs.Records.{head_size, place_size, line_size}
use Rattle.write_drawings.specs.Lists.{bend_at}

-- the arrays and numbers hold the finished drawing d, and x has its settled x
pub record Finished (d : Drawing) (x : List ℕ) (a : Arrays) (c : Counts) : Type 0 where
  pub holds : Holds d a c
  pub long : length x ≡ 1024
  pub settled : take c.k x ≡ d.xs
  pub scale : (1 ≤ d.s) × (d.s ≤ 8)
  pub full : d.k ≡ d.n

-- what comparing asks: some finished drawing is held so
pub record Held (x : List ℕ) (a : Arrays) (c : Counts) : Type 0 where
  pub d : Drawing
  pub finished : Finished d x a c

-- what writing asks: some finished drawing is held so, and its file has room in the buffer
pub record Writable (x : List ℕ) (a : Arrays) (c : Counts) (buffer : List ℕ) : Type 0 where
  pub d : Drawing
  pub finished : Finished d x a c
  pub room : length (drawing_bytes d) ≤ length buffer

-- ---- what the parts of writing ask

-- the places of the first k points, times s, fit, and their records have room at the place `at`
pub record PointsReady (xs ys : List ℕ) (s k at : ℕ) (buffer : List ℕ) : Type 0 where
  pub long : (length xs ≡ 1024) × (length ys ≡ 1024)
  pub few : k ≤ 1024
  pub x : (i : ℕ) → i < k → s * get_or xs i 0 < 65536
  pub y : (i : ℕ) → i < k → s * get_or ys i 0 < 65536
  pub room : at + place_size * k ≤ length buffer

-- the numbers of the header and of all points fit, and their records have room at the place `at`
pub record HeadReady (x : List ℕ) (a : Arrays) (c : Counts) (at : ℕ) (buffer : List ℕ) : Type 0 where
  pub held : Held x a c
  pub room : at + head_size + place_size * c.k ≤ length buffer

-- a line's bend is found, and times s it fits
pub record LineFits (x : List ℕ) (a : Arrays) (s : ℕ) (l : Line) : Type 0 where
  pub bendable : Bendable x a l.later l.earlier l.bend
  pub across : s * (bend_at x a l).x < 65536
  pub up : s * (bend_at x a l).y < 65536

-- line e is such a line, and its record has room at the place `at`
pub record LineReady (τ : Style) (x : List ℕ) (a : Arrays) (s e at : ℕ) (buffer : List ℕ) : Type 0 where
  pub line : e < 3072
  pub fits : LineFits x a s (get_or a.lines e no_line)
  pub room : at + line_size τ ≤ length buffer

-- so are `count` lines from line `from` on
pub record LinesReady (τ : Style) (x : List ℕ) (a : Arrays) (s from count at : ℕ) (buffer : List ℕ) : Type 0 where
  pub few : from + count ≤ 3072
  pub fits : (i : ℕ) → i < count → LineFits x a s (get_or a.lines (from + i) no_line)
  pub room : at + line_size τ * count ≤ length buffer
