-- The one-bend drawing's invariant outlives the step.
use Rattle.std.specs.Prelude.{ℕ}
use Rattle.rules.specs.declared.Style.TheVariants.{OneBend}
use Rattle.net.specs.Net.{Net}
use Rattle.net.specs.Inv.{Inv}
use Rattle.net.specs.Adds.{Adds, Bends, Exact, Owning}
use Rattle.net.specs.Core.{core'}
use Rattle.net.specs.Ports.{ports'}
use Rattle.net.specs.Slopes.{slopes'}
use Rattle.net.specs.Frees.{frees'}

pub kept : {g g' : Net} {l r : ℕ} → Inv g → (a : Adds OneBend g g' l r) → Exact g g' l r a → Owning g g' l r → Bends g g' l r a → Inv g'
kept i a x o b =
    let h = i.core.points in
    let n = i.core.lines in
    record {
      core = core' i.core a x.rig o;
      ports = ports' h n a i.ports;
      slopes = slopes' h n a b i.ports i.slopes;
      frees = frees' h n a i.frees;
    }
