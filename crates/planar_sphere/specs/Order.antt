-- The shells of a net, and what shelling from the top comes to (that it never sticks is in proofs/).
use Rattle.std.specs.Prelude.{ℕ, ◌+◌, ◌-◌, false, ltb, if◌then◌else◌}
use Rattle.planar_sphere.specs.Count.{put}
use Rattle.planar_sphere.specs.Map.{Map, φ, turn}
use Rattle.planar_sphere.specs.Shell.{Shell}
use Rattle.planar_sphere.specs.Cross.{Chordless}
use Rattle.planar_sphere.specs.Arc.{Arc}
use Rattle.planar_sphere.specs.Take.{Taken}
use Rattle.planar_sphere.specs.Open.{Opened, hub}

-- ---- the shells, as functions

unfoldable pub take : Map → Shell → ℕ → ℕ → ℕ → Shell
take g h s t p =
    record {
      gone = put (g.org (h.b t)) h.gone;
      m = h.m + p - 2;
      b = λ x. (if ltb x s then h.b x else if ltb x (s + p) then φ g (g.σ (turn g (s + p - (x + 1)) (h.b t))) else h.b (x + 2 - p));
    }

unfoldable pub start : Map → ℕ → ℕ → Shell
start g e m = record { gone = put (g.org (hub g e)) (λ y. false); m = m; b = λ x. φ g (g.σ (turn g (m - (x + 1)) (hub g e))) }

-- ---- what shelling from the line e comes to

pub data Shelled (g : Map) (e : ℕ) : Shell → Type 0 where
  first : {h : Shell} → Opened g h e → Shelled g e h
  next : {h h' : Shell} (s t p : ℕ) → Shelled g e h → Arc g h s t p → Chordless g h t → Taken g h h' s t p → Shelled g e h'
