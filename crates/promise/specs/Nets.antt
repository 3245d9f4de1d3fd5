-- A drawing of the rules read as a net: points count from 0, and columns are climbed.
use Rattle.std.specs.Prelude.{ℕ, suc, pred, length}
use Rattle.rules.specs.declared.Bend.{Bend}
use Rattle.rules.specs.declared.Bend.TheVariants.{Left, Right, Middle, NoBend}
use Rattle.rules.specs.Points.{Drawing, x_of, y_of, dl_of, dr_of, h_of, owner_of, m, line_at}
use Rattle.rules.specs.Points as Points
use Rattle.rules.specs.Moving.{column}
use Rattle.net.specs.Side.{Side, rt, lf}
use Rattle.net.specs.Net.{Net, BendKind, side, middle, flat}

abbrev pub bend_kind : Bend → BendKind
bend_kind (Left j) = side lf j
bend_kind (Right j) = side rt j
bend_kind (Middle i) = middle i
bend_kind NoBend = flat

-- the ports of point suc p on a side
abbrev pub ports_of : Drawing → Side → ℕ → ℕ
ports_of d rt p = dr_of d (suc p)
ports_of d lf p = dl_of d (suc p)

abbrev pub net_of : Drawing → Net
net_of d =
    record {
      k = d.k;
      m = m d;
      L = length d.lines;
      x = λ p. x_of d (suc p);
      y = λ p. y_of d (suc p);
      col = λ p. column d (suc p);
      own = λ p. pred (owner_of d (suc p));
      w = λ i. pred (Points.w d i);
      u = λ e. pred (line_at d e).earlier;
      v = λ e. pred (line_at d e).later;
      kind = λ e. bend_kind (line_at d e).bend;
      d = ports_of d;
      h = λ p. h_of d (suc p);
    }
