-- The arrays of no drawing, and the arrays and numbers of a drawing as opened, with the entries of lines 1-2, 3-1 and 3-2 as 16-bit numbers.
use Rattle.std.specs.Prelude.{ℕ, List, replicate, set}
use Rattle.rules.specs.declared.Style.{Style}
use Rattle.rules.specs.declared.Kind.TheVariants.{Guide}
use Rattle.rules.specs.declared.Line.{Line}
use Rattle.rules.specs.declared.Bend.TheVariants.{Left, Right, NoBend}
use Rattle.rules.specs.Styles.{third_x, third_y, taken, bent}
use Rattle.store_links.specs.declared.Counts.{Counts}
use Rattle.store_links.specs.Arrays.{Arrays}
use Rattle.store_links.specs.Storing.{put_at, line_of}

-- 1,024 zeros
abbrev pub no_points : List ℕ
no_points = replicate 1024 0

-- no line yet: what `line_at` gives where there is none
abbrev pub no_line : Line
no_line = record { later = 0; earlier = 0; bend = NoBend; kind = Guide }

-- 3,072 of them
abbrev pub no_lines : List Line
no_lines = replicate 3072 no_line

-- the first three lines of a drawing of that style
abbrev pub three_lines : Style → ℕ → ℕ → ℕ → List Line
three_lines style a b c = set (set (set no_lines 0 (line_of 2 NoBend a)) 1 (line_of 3 (bent style (Right 1)) b)) 2 (line_of 3 (bent style (Left 1)) c)

-- point 3 stands as far from point 1 as from point 2
unfoldable pub open_arrays : Style → ℕ → ℕ → ℕ → Arrays
open_arrays style a b c =
    record {
      next = put_at (put_at no_points 1 3) 3 2;
      gap = put_at (put_at no_points 3 (third_x style)) 2 (third_x style);
      owner = no_points;
      ys = put_at no_points 3 (third_y style);
      dls = put_at no_points 2 (taken style 0);
      drs = put_at no_points 1 (taken style 0);
      hs = no_points;
      lines = three_lines style a b c;
    }

abbrev pub open_counts : Style → ℕ → ℕ → Counts
open_counts style n s = record { style = style; n = n; s = s; k = 3; m = 3; lines = 3 }
