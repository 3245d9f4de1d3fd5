-- What the distances of a call say of the drawing d, over its run l .. r: where the new point lies, and where its ports change.
use Rattle.std.specs.Prelude.{ℕ, ◌+◌, ◌/◌, ◌≡◌, List, map, length}
use Rattle.rules.specs.Points.{Drawing, x_of, w}
use Rattle.rules.specs.Readings.{entry_of}
use Rattle.rules.specs.Adding.{spread, new_x, new_y}
use Rattle.store_links.specs.declared.Spot.{Spot}
use Rattle.promise.specs.Moved.{amount1}
use Rattle.promise.specs.Lines.{change_of}

pub record Spotted (d : Drawing) (es : List ℕ) (l r : ℕ) (p : Spot) (from : ℕ) : Type 0 where
  pub x : x_of d (w d l) + p.dx ≡ new_x l r (spread l r d)
  pub y : p.y ≡ new_y l r (spread l r d)
  pub h : p.h ≡ length es / 2
  pub s1 : p.s1 ≡ amount1 d l
  pub rest : new_x l r (spread l r d) + p.rest ≡ x_of (spread l r d) (w d r)
  pub change : from ≡ change_of d (map entry_of es) l r
