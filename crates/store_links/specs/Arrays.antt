-- The arrays that keep a drawing, as lists. Point p stands at index p - 1, line e at index e.
use Rattle.std.specs.Prelude.{ℕ, suc, pred, ◌+◌, ◌<◌, ◌≤◌, ◌≡◌, List, length, get_or, take}
use Rattle.rules.specs.declared.Line.{Line}
use Rattle.rules.specs.Points.{Drawing, x_of, owner_of, w, m}
use Rattle.store_links.specs.declared.Counts.{Counts}

-- what is added to a covered point's distance from its owner, which may lie on either side of it
abbrev pub gap_offset : ℕ
gap_offset = 32768

-- next: of a boundary point the next one, of point 2 (the last) 0.
-- gap: of a boundary point its x less the x of the one before it; of a covered point its x less its owner's x, plus the offset.
-- lines: the lines, as the rules have them.
pub record Arrays : Type 0 where
  pub next : List ℕ
  pub gap : List ℕ
  pub owner : List ℕ
  pub ys : List ℕ
  pub dls : List ℕ
  pub drs : List ℕ
  pub hs : List ℕ
  pub lines : List Line

-- the eight arrays, in their order
abbrev pub arrays_of : List ℕ → List ℕ → List ℕ → List ℕ → List ℕ → List ℕ → List ℕ → List Line → Arrays
arrays_of next gap owner ys dls drs hs lines =
    record {
      next = next;
      gap = gap;
      owner = owner;
      ys = ys;
      dls = dls;
      drs = drs;
      hs = hs;
      lines = lines;
    }

-- room for 1,024 points and 3,072 lines
pub record Sized (a : Arrays) : Type 0 where
  pub next : length a.next ≡ 1024
  pub gap : length a.gap ≡ 1024
  pub owner : length a.owner ≡ 1024
  pub ys : length a.ys ≡ 1024
  pub dls : length a.dls ≡ 1024
  pub drs : length a.drs ≡ 1024
  pub hs : length a.hs ≡ 1024
  pub lines : length a.lines ≡ 3072

-- a list read at point p
abbrev pub at_point : List ℕ → ℕ → ℕ
at_point l p = get_or l (pred p) 0

-- the arrays and the numbers store the drawing d
pub record Stores (d : Drawing) (a : Arrays) (c : Counts) : Type 0 where
  pub style : c.style ≡ d.style
  pub n : c.n ≡ d.n
  pub s : c.s ≡ d.s
  pub k : c.k ≡ d.k
  pub m : c.m ≡ m d
  pub lines : c.lines ≡ length d.lines
  pub owner : take d.k a.owner ≡ d.owners
  pub ys : take d.k a.ys ≡ d.ys
  pub dls : take d.k a.dls ≡ d.dls
  pub drs : take d.k a.drs ≡ d.drs
  pub hs : take d.k a.hs ≡ d.hs
  -- the boundary by links and gaps
  pub link : (i : ℕ) → suc i < Rattle.rules.specs.Points.m d → at_point a.next (w d i) ≡ w d (suc i)
  pub last : at_point a.next 2 ≡ 0
  pub step : (i : ℕ) → suc i < Rattle.rules.specs.Points.m d → x_of d (w d (suc i)) ≡ x_of d (w d i) + at_point a.gap (w d (suc i))
  -- covered points by their owners
  pub hang : (p o : ℕ) → suc p ≤ d.k → owner_of d (suc p) ≡ suc o → x_of d (suc p) + gap_offset ≡ x_of d (suc o) + at_point a.gap (suc p)
  -- the lines
  pub drawn : take (length d.lines) a.lines ≡ d.lines
