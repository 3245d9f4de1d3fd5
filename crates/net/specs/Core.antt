-- Both drawings: what they keep outlives the step.
use Rattle.std.specs.Prelude.{ℕ}
use Rattle.rules.specs.declared.Style.{Style}
use Rattle.net.specs.Net.{Net}
use Rattle.net.specs.Inv.{Core}
use Rattle.net.specs.Adds.{Adds, Rigid, Owning}
use Rattle.net.specs.Walls.{points'}
use Rattle.net.specs.Tri.{lines'}
use Rattle.net.specs.Owners.{owners'}
use Rattle.net.specs.Border.{corners'}
use Rattle.net.specs.Alike.{alike'}

pub core' : {τ : Style} {g g' : Net} {l r : ℕ} → Core τ g → (a : Adds τ g g' l r) → Rigid τ g g' l r a → Owning g g' l r → Core τ g'
core' c a x o =
    record {
      points = points' c.points a;
      lines = lines' c.points a c.lines;
      owners = owners' c.points a o c.owners;
      corners = corners' c.points c.lines a x c.corners;
      alike = alike' c.points c.lines a c.alike;
    }
