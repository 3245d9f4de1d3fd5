-- The one table that keeps a drawing, the columns in it, and no drawing yet.
use Rattle.std.specs.Prelude.{ℕ, List, map, replicate}
use Rattle.rules.specs.declared.Style.TheVariants.{OneBend}
use Rattle.store_links.specs.Arrays.{Arrays, arrays_of}
use Rattle.store_links.specs.Opening.{no_lines}
use Rattle.store_tables.specs.declared.Point.{Point}
use Rattle.store_tables.specs.declared.Table.{Table}
use Rattle.store_tables.specs.declared.Drawing.{Drawing}

-- the columns of a list of points
abbrev pub nexts : List Point → List ℕ
nexts ps = map (λ (p : Point). p.next) ps

abbrev pub gaps : List Point → List ℕ
gaps ps = map (λ (p : Point). p.gap) ps

abbrev pub owners : List Point → List ℕ
owners ps = map (λ (p : Point). p.owner) ps

abbrev pub ys : List Point → List ℕ
ys ps = map (λ (p : Point). p.y) ps

abbrev pub dls : List Point → List ℕ
dls ps = map (λ (p : Point). p.dl) ps

abbrev pub drs : List Point → List ℕ
drs ps = map (λ (p : Point). p.dr) ps

abbrev pub hs : List Point → List ℕ
hs ps = map (λ (p : Point). p.h) ps

-- the arrays that a table keeps: a column for each number of a point
abbrev pub arrays_in : Table → Arrays
arrays_in t = arrays_of (nexts t.points) (gaps t.points) (owners t.points) (ys t.points) (dls t.points) (drs t.points) (hs t.points) t.lines

-- every number of a point is 0
abbrev pub no_point : Point
no_point = record { next = 0; gap = 0; owner = 0; y = 0; dl = 0; dr = 0; h = 0 }

-- A table that holds no drawing yet: every number is 0.
abbrev pub zeros : Table
zeros =
    record {
      points = replicate 1024 no_point;
      lines = no_lines;
    }

-- No drawing yet: every number is 0, no points and no lines.
abbrev pub blank : Drawing
blank = record { counts = record { style = OneBend; n = 0; s = 0; k = 0; m = 0; lines = 0 }; table = zeros }
