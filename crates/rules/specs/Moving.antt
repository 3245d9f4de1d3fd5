-- "To move a boundary point is to move all it owns, and what those own." Nothing here knows by how much the rules move.
use Rattle.std.specs.Prelude.{ℕ, zero, suc, ◌+◌, List, [], ◌∷◌, leb, if◌then◌else◌}
use Rattle.rules.specs.Basics.{nth, index_of}
use Rattle.rules.specs.Points.{Drawing}

-- the boundary point that owns p through owners, at most `steps` owners up; p itself where nobody owns it
abbrev pub climb : ℕ → List ℕ → ℕ → ℕ
climb zero owners p = p
climb (suc steps) owners p = elim (nth owners p 0) [ zero ↦ p | suc q ↦ climb steps owners (suc q) ]

-- the column of p: the boundary index, from 0, of the boundary point that moves p with it
abbrev pub column : Drawing → ℕ → ℕ
column d p = index_of (climb d.k d.owners p) d.boundary

-- the x of points p, p + 1, .., each moved right by what f says of its number
abbrev pub moved_xs : (ℕ → ℕ) → ℕ → List ℕ → List ℕ
moved_xs f p [] = []
moved_xs f p (x ∷ xs) = (x + f p) ∷ moved_xs f (suc p) xs

-- how far point p moves where the boundary from index i on moves right by `by`
abbrev pub shift : ℕ → ℕ → Drawing → ℕ → ℕ
shift i by d p = if leb i (column d p) then by else 0

-- the boundary from index i on moves right by `by`
abbrev pub move : ℕ → ℕ → Drawing → Drawing
move i by d =
    record {
      style = d.style;
      n = d.n;
      s = d.s;
      k = d.k;
      boundary = d.boundary;
      owners = d.owners;
      xs = moved_xs (shift i by d) 1 d.xs;
      ys = d.ys;
      dls = d.dls;
      drs = d.drs;
      hs = d.hs;
      lines = d.lines;
    }
