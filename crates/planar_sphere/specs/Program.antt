-- What a program keeps: which points are gone, and the boundary by its points. Points are the file's vertices, counted from 0. (The laws are in proofs/.)
use Rattle.std.specs.Prelude.{ℕ, ◌+◌, ◌-◌, ◌<◌, ◌≤◌, ◌≡◌, ◌≢◌, ◌⊎◌, Bool}
use Rattle.planar_rules.specs.PlanarCode.{Flat, back}
use Rattle.planar_sphere.specs.Count.{put}
use Rattle.planar_sphere.specs.Map.{Map, turn}
use Rattle.planar_sphere.specs.Flat.{map}
use Rattle.planar_sphere.specs.Shell.{Shell}
use Rattle.planar_sphere.specs.Order.{Shelled}

pub record State : Type 0 where
  pub gone : ℕ → Bool
  pub m : ℕ
  pub w : ℕ → ℕ

abbrev pub net-map : Flat → Map
net-map f = map f (back f)

-- the state is a shell's
pub record Is (f : Flat) (s : State) : Type 0 where
  pub h : Shell
  pub shelled : Shelled (net-map f) 0 h
  pub gone : (x : ℕ) → s.gone x ≡ h.gone x
  pub m : s.m ≡ h.m
  pub w : (x : ℕ) → x < h.m → s.w x ≡ f.own (h.b x)

-- the test: no neighbour of w t is a boundary point but the two beside it
abbrev pub Free : Flat → State → ℕ → Type 0
Free f s t = (d l : ℕ) → d < f.D → l < s.m → f.own d ≡ s.w t → f.nbr d ≡ s.w l → (l ≡ t + 1) ⊎ (l + 1 ≡ t)

-- the walk from d0, the place of w (t + 1) in w t's list, to that of w (t - 1), p places on; the new boundary
pub record Goes (f : Flat) (s s' : State) (t d0 p : ℕ) : Type 0 where
  pub d0_in : d0 < f.D
  pub d0-own : f.own d0 ≡ s.w t
  pub d0-nbr : f.nbr d0 ≡ s.w (t + 1)
  pub hit : f.nbr (turn (net-map f) p d0) ≡ s.w (t - 1)
  pub not_yet : (k : ℕ) → k < p → f.nbr (turn (net-map f) k d0) ≢ s.w (t - 1)
  pub gone' : (x : ℕ) → s'.gone x ≡ put (s.w t) s.gone x
  pub m' : s'.m + 2 ≡ s.m + p
  pub low : (x : ℕ) → x < t → s'.w x ≡ s.w x
  pub run : (x j : ℕ) → j ≤ p → x + j + 1 ≡ t + p → s'.w x ≡ f.nbr (turn (net-map f) j d0)
  pub high : (x y : ℕ) → t < y → y + p ≡ x + 2 → s'.w x ≡ s.w y
